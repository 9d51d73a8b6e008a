-- What is printed for three texts of which one is refused, or whose fixed rule is.
use Rattle.std.proofs.Common.{◌≡◌, ℕ, Bool, true, false, cond, ◌⊎◌, List, Some, None, Ok, Err, Option, Result, sym, refl, ap, ◌∙◌, subst, ap₂, inl, inr, arith}
use Rattle.std.proofs.lemmas.Bool.{cond-true, cond-false, false_from_ne_true}
use Rattle.std.proofs.lemmas.Bool.Decides.{not_from_Decides}
use Rattle.model.specs.declared.refusal.Refusal.TheVariants.{Form, Byte}
use Rattle.formats.specs.declared.fault.TextFault.{TextFault}
use Rattle.formats.specs.Texts.{Proper, IsText, Refused, fault, is_text, bad_byte, unless_byte, written}
use Rattle.formats.specs.Texts.Refused.{no_text, no_byte, no_line, no_end}
use Rattle.formats.specs.NetText.{NetText}
use Rattle.formats.specs.NetClauses.{net_meaning}
use Rattle.formats.specs.RulesText.{RulesText}
use Rattle.formats.proofs.Whole.{d_text, bytes_fine, fine_bytes, bytes_bad, bad_bytes}
use Rattle.formats.proofs.NetLaws.{net_exact, net_refusals}
use Rattle.formats.proofs.RulesLaws.{rules_exact, rules_refusals}
use Rattle.texts.specs.Lines.{bytes_check, text_check}
use Rattle.panel.specs.Cells.{cell_of}
use Rattle.panel.specs.Orders.{ran_with, ran_on, ran}
use Rattle.panel.specs.Run.{by_rules, by_net, printed}
use Rattle.panel.specs.Bad.{orders_meaning, OrdersPass, OrdersDecided, TextsOf, BadPrinted}

-- ---- the checks of the whole orders text
check_bad : (bs : List ℕ) (f : TextFault) → Refused orders_meaning bs f → text_check bs ≡ Err f
check_bad bs f (no_text n e) = cond-false (is_text bs) (bytes_check bs) (Err (fault Form 0 0)) (false_from_ne_true (is_text bs) (λ q. n ((d_text bs).0 q))) ∙ ap Err (sym e)
check_bad bs f (no_byte t front b back s g w e) =
    cond-true (is_text bs) (bytes_check bs) (Err (fault Form 0 0)) ((d_text bs).1 t)
    ∙ ap (λ (o : Option TextFault). unless_byte o (Ok tt))
    (ap (λ (z : List ℕ). bad_byte 1 0 z) s ∙ bad_bytes 1 0 front b back g w ∙ ap₂ (λ (u v : ℕ). Some (fault Byte u v)) (omega arith) (omega arith))
    ∙ ap Err (sym e)
check_bad bs f (no_line t a s l rest r q n c i b e) = absurd b
check_bad bs f (no_end t a x r q n e) = absurd (n tt)

check_passes : (bs : List ℕ) → OrdersPass bs → text_check bs ≡ Ok tt
check_passes bs h =
    cond-true (is_text bs) (bytes_check bs) (Err (fault Form 0 0)) ((d_text bs).1 h.0)
    ∙ ap (λ (o : Option TextFault). unless_byte o (Ok tt)) (fine_bytes 1 0 bs h.1)

abbrev Told : List ℕ → Result (Unit {0}) TextFault → Type 0
Told bs (Ok u) = OrdersPass bs
Told bs (Err f) = Refused orders_meaning bs f

told : (bs : List ℕ) → Told bs (text_check bs)
told bs = whole (is_text bs) refl
  where
    bytes : IsText bs → (o : Option TextFault) → bad_byte 1 0 bs ≡ o → Told bs (unless_byte o (Ok tt))
    bytes t None e = (t, bytes_fine 1 0 bs e)
    bytes t (Some f) e = let b = bytes_bad 1 0 bs f e in no_byte t b.front b.bad b.back b.splits b.good b.wrong (b.told ∙ ap₂ (λ (u v : ℕ). fault Byte u v) (omega arith) (omega arith))

    whole : (b : Bool) → is_text bs ≡ b → Told bs (cond b (bytes_check bs) (Err (fault Form 0 0)))
    whole true e = bytes ((d_text bs).0 e) (bad_byte 1 0 bs) refl
    whole false e = no_text (not_from_Decides (is_text bs) (d_text bs) e) refl

either : (bs : List ℕ) (r : Result (Unit {0}) TextFault) → Told bs r → OrdersPass bs ⊎ ((f : TextFault) × Refused orders_meaning bs f)
either bs (Ok u) h = inl h
either bs (Err f) h = inr (f, h)

pub orders_decided : OrdersDecided
orders_decided = record {
  passes = λ bs. (λ e. subst (Told bs) e (told bs), check_passes bs);
  refused = λ bs f. (λ e. subst (Told bs) e (told bs), check_bad bs f);
  either = λ bs. either bs (text_check bs) (told bs);
  never_both = λ bs f p r. grind (arith, check_passes bs p, check_bad bs f r);
  one_fault = λ bs f g p r. let a = check_bad bs f p in let b = check_bad bs g r in cc;
}

-- ---- the print, by what the texts are
net_read : (net rules orders : List ℕ) (x : NetText) → Proper net_meaning x → net ≡ written net_meaning x → printed net rules orders ≡ by_net (Ok x) rules orders
net_read net rules orders x p w = ap (λ (r : Result NetText TextFault). by_net r rules orders) ((net_exact net x).1 p w)

pub texts_ran : (net rules orders : List ℕ) (x : NetText) (y : RulesText) → TextsOf x y net rules → printed net rules orders ≡ ran (cell_of x y) orders
texts_ran net rules orders x y t =
    net_read net rules orders x t.net_proper t.net_written
    ∙ ap (λ (r : Result RulesText TextFault). by_rules x r orders) ((rules_exact x t.net_proper.right rules y).1 t.rules_proper t.rules_written)

pub bad_printed : (net rules orders : List ℕ) → BadPrinted net rules orders (printed net rules orders)
bad_printed net rules orders = record {
  net_refused = λ f r. ap (λ (a : Result NetText TextFault). by_net a rules orders) ((net_refusals net f).1 r);
  rules_refused = λ x f p w r. net_read net rules orders x p w ∙ ap (λ (a : Result RulesText TextFault). by_rules x a orders) ((rules_refusals x p.right rules f).1 r);
  orders_refused = λ x y f t r. texts_ran net rules orders x y t ∙ ap (ran_on (cell_of x y) orders) (check_bad orders f r);
  fixed_refused = λ x y f t p e. texts_ran net rules orders x y t ∙ ap (ran_on (cell_of x y) orders) (check_passes orders p) ∙ ap (ran_with (cell_of x y) orders) e;
}
