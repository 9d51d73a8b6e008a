-- A whole rules text, from its first line to its end.
use Rattle.std.proofs.Common.{◌≡◌, ℕ, ◌+◌, ◌≤◌, List, [], ◌∷◌, length, drop, Some, None, Ok, Err, vec_items, Option, Result, Vec, sym, ap, ◌∙◌, subst, arith}
use Rattle.std.specs.declared.alloc.Global.{Global}
use Rattle.std.proofs.lemmas.List.{length-append, length-drop}
use Rattle.formats.specs.declared.fault.TextFault.{TextFault}
use Rattle.formats.specs.Words.{fields, last, lines}
use Rattle.formats.specs.Texts.{Check, first_failed, unless, read_lines}
use Rattle.formats.specs.NetText.{NetText, names, place_names}
use Rattle.formats.specs.RulesText as said
use Rattle.formats.specs.RulesText.{RuleShape, rule_shape, checks_of, after_rule, rules_reader, read_rules}
use Rattle.formats.specs.RulesText.RuleShape.{a_fixed, a_rule, neither}
use Rattle.formats.proofs.RulesLaws.{rules_exact, rules_refusals}
use Rattle.texts.specs.declared.span.Span.{Span}
use Rattle.texts.specs.declared.stop.ReadError.{ReadError}
use Rattle.texts.specs.declared.stop.ReadError.TheVariants.{Refused, NoMemory}
use Rattle.texts.specs.declared.at.At.{At}
use Rattle.texts.specs.Spans.{Told, checked}
use Rattle.texts.specs.Walking.{numbered_lines, read_on}
use Rattle.texts.proofs.Walking.{on_lines, stands, first_at}
use Rattle.rules_text.specs.declared.rule.RuleLine.{RuleLine}
use Rattle.rules_text.specs.declared.rule.RulesText.{RulesText}
use Rattle.rules_text.specs.Rules.{EachSays, RulesSay}
use Rattle.rules_text.specs.Reading.{FixedFields, Stands, Located, RulesRead}
use Rattle.rules_text.proofs.Standing.{line_stands}
use Rattle.rules_text.proofs.Adding.{fields_say}

-- ---- the fixed rule alone
pub opened_says : (bs : List ℕ) (ps : List (List ℕ)) (s : ℕ) (sh : RuleShape) (l : RuleLine) (v : Vec RuleLine Global) → vec_items v ≡ [] → Stands bs s sh → FixedFields ps s sh l
    → RulesSay bs (record { fixed = l; others = v }) (after_rule ps None sh) × (l.name.start ≡ s + 6)
opened_says bs ps s (a_fixed n m b) l v e stands h = (
  record { fixed = fields_say bs ps (s + 6) n m b l stands.0 h; others = subst (λ (ls : List RuleLine). EachSays bs ls []) (sym e) tt },
  ap (λ (z : Span). z.start) h.0,
)
opened_says bs ps s (a_rule n m b) l v e stands h = absurd h
opened_says bs ps s neither l v e stands h = absurd h

-- ---- the first line
module _ (taken ps : List (List ℕ)) (bs : List ℕ) (ends : last bs ≡ 10) (at : At) (l : List ℕ) (rest : List (At × List ℕ)) (starts : numbered_lines bs ≡ (at, l) ∷ rest) where
  abbrev first : RuleShape
  first = rule_shape (fields l)

  abbrev go_on : Result said.RulesText TextFault
  go_on = read_on (rules_reader taken ps) (Some (after_rule ps None first)) (length bs) rest

  first_turn : read_lines (rules_reader taken ps) None 1 0 (lines bs) ≡ unless (first_failed (checks_of taken ps None at.byte first)) at.line go_on
  first_turn = on_lines (rules_reader taken ps) bs ends ∙ ap (read_on (rules_reader taken ps) None (length bs)) starts

  pub first_refused : (f : TextFault) → Err f ≡ checked {A = Unit {0}} (checks_of taken ps None at.byte first) at.line tt → read_lines (rules_reader taken ps) None 1 0 (lines bs) ≡ Err f
  first_refused f q = first_turn ∙ go (first_failed (checks_of taken ps None at.byte first)) q
    where
      go : (o : Option Check) → ◌≡◌ {A = Result (Unit {0}) TextFault} (Err f) (unless o at.line (Ok tt)) → unless o at.line go_on ≡ Err f
      go None r = let z : ◌≡◌ {A = ℕ} 0 1 = cc in absurd (omega arith)
      go (Some c) r = cc

  pub first_passed : first_failed (checks_of taken ps None at.byte first) ≡ None → read_lines (rules_reader taken ps) None 1 0 (lines bs) ≡ go_on
  first_passed q = first_turn ∙ ap (λ (o : Option Check). unless o at.line go_on) q

  pub first_stands : Stands bs at.byte first
  first_stands = let h = stands bs 0 at l rest ends starts in line_stands bs at.byte l h.more h.there

  pub first_fits : at.byte + length l + 1 ≤ length bs
  first_fits = let h = stands bs 0 at l rest ends starts in omega (arith, length-drop at.byte bs, ap length h.there, length-append l (10 ∷ h.more))

  -- only the fixed rule is read yet
  module _ (n : RulesText) (none : vec_items n.others ≡ []) where
    pub first_left : rest ≡ drop (length (vec_items n.others) + 1) (numbered_lines bs)
    first_left =
        let one : length (vec_items n.others) + 1 ≡ 1 = omega (arith, ap length none) in
        sym (ap (λ (i : ℕ). drop i (numbered_lines bs)) one ∙ ap (drop 1) starts)

    pub first_located : n.fixed.name.start ≡ at.byte + 6 → Located bs n
    first_located named =
        let count : length (vec_items n.others) ≡ 0 = ap length none in
        let zero = ap (λ (a : At). a.byte) (first_at bs at l rest starts) in
        record { fixed = omega (arith, named, zero); others = λ i h. absurd (omega arith) }

-- ---- what an answer means
module _ (net : NetText) (bs : List ℕ) where
  abbrev taken : List (List ℕ)
  taken = names net

  abbrev ps : List (List ℕ)
  ps = place_names net

  pub accepts : length net.places ≤ 32 → (y : RulesText) (x : said.RulesText) → read_rules taken ps bs ≡ Ok x → RulesSay bs y x → Located bs y → RulesRead net bs (Ok y)
  accepts few y x e says w =
      record {
        crowded = λ h. omega (arith, h, few);
        answer = λ h. (x, e, says);
        accepted = λ p. let a = (rules_exact net p.right bs x).0 e in (x, a.0, a.1, says);
        refused = λ p f h. let q = (rules_refusals net p.right bs f).1 h in let z : ◌≡◌ {A = ℕ} 0 1 = cc in omega arith;
        located = w;
      }

  pub refuses : length net.places ≤ 32 → (f : TextFault) → read_rules taken ps bs ≡ Err f → RulesRead net bs (Err (Refused f))
  refuses few f e =
      record {
        crowded = λ h. absurd (omega (arith, h, few));
        answer = λ h. e;
        accepted = λ p x q w. let r = (rules_exact net p.right bs x).1 q w in let z : ◌≡◌ {A = ℕ} 0 1 = cc in omega arith;
        refused = λ p. ((rules_refusals net p.right bs f).0 e, λ g h. let q = (rules_refusals net p.right bs g).1 h in cc);
        located = tt;
      }

  pub gives_up : RulesRead net bs (Err NoMemory)
  gives_up = record { crowded = λ h. tt; answer = λ h. tt; accepted = λ p. tt; refused = λ p. tt; located = tt }

  -- an error of the lines after the first
  pub lines_refused : length net.places ≤ 32 → (r : ReadError) (P : Unit {0} → Type 0) (whole : Result said.RulesText TextFault) → read_rules taken ps bs ≡ whole → Told (Err r) P (λ f. whole ≡ Err f) → RulesRead net bs (Err r)
  lines_refused few (Refused f) P whole e h = refuses few f (e ∙ h)
  lines_refused few NoMemory P whole e h = gives_up
