-- A rule line that is read adds its rule.
use Rattle.std.proofs.Common.{◌≡◌, ℕ, suc, ◌+◌, ◌<◌, ◌≤◌, Bool, true, ltb, ◌⊎◌, List, [], ◌∷◌, ◌++◌, map, length, get_or, take, drop, Some, None, Ok, Err, vec_items, vec_len, Option, Result, Vec, sym, refl, ap, ◌∙◌, subst, ap₂, inl, inr, arith}
use Rattle.std.specs.declared.alloc.Global.{Global}
use Rattle.std.proofs.lemmas.List.{length_push, get_or_append_left, get_or_push}
use Rattle.std.proofs.lemmas.Bool.{cases_lt, cond-true}
use Rattle.model.specs.declared.refusal.Refusal.TheVariants.{TooMany}
use Rattle.formats.specs.declared.fault.TextFault.{TextFault}
use Rattle.formats.specs.Texts.{Check, check, first_failed, unless}
use Rattle.formats.specs.RulesText as said
use Rattle.formats.specs.RulesText.{rule_names, line_checks, line_of, bound_of, checks_of, after_rule, add_rule}
use Rattle.formats.specs.RulesText.RuleShape.{a_rule}
use Rattle.texts.specs.Spans.{part_of, checked, line_start}
use Rattle.texts.proofs.Checking.{stops}
use Rattle.rules_text.specs.declared.rule.RuleLine.{RuleLine}
use Rattle.rules_text.specs.declared.rule.RulesText.{RulesText}
use Rattle.rules_text.specs.Rules.{LineSays, EachSays, RulesSay, rule_titles, no_rule}
use Rattle.rules_text.specs.Reading.{Fields, rule_read, Locates}

-- ---- lists of lines
pub says_length : (bs : List ℕ) (ls : List RuleLine) (rs : List said.RuleLine) → EachSays bs ls rs → length ls ≡ length rs
says_length bs [] [] h = refl
says_length bs [] (r ∷ rs) h = absurd h
says_length bs (l ∷ ls) [] h = absurd h
says_length bs (l ∷ ls) (r ∷ rs) h = ap suc (says_length bs ls rs h.1)

pub says_names : (bs : List ℕ) (ls : List RuleLine) (rs : List said.RuleLine) → EachSays bs ls rs → map (λ (l : RuleLine). part_of bs l.name) ls ≡ map (λ (r : said.RuleLine). r.name) rs
says_names bs [] [] h = refl
says_names bs [] (r ∷ rs) h = absurd h
says_names bs (l ∷ ls) [] h = absurd h
says_names bs (l ∷ ls) (r ∷ rs) h = ap₂ (λ (n : List ℕ) (ns : List (List ℕ)). n ∷ ns) h.0.name (says_names bs ls rs h.1)

pub says_push : (bs : List ℕ) (ls : List RuleLine) (rs : List said.RuleLine) (l : RuleLine) (r : said.RuleLine) → EachSays bs ls rs → LineSays bs l r → EachSays bs (ls ++ (l ∷ [])) (rs ++ (r ∷ []))
says_push bs [] [] l r h w = (w, tt)
says_push bs [] (q ∷ rs) l r h w = absurd h
says_push bs (k ∷ ls) [] l r h w = absurd h
says_push bs (k ∷ ls) (q ∷ rs) l r h w = (h.0, says_push bs ls rs l r h.1 w)

pub titles_names : (bs : List ℕ) (n : RulesText) (x : said.RulesText) → RulesSay bs n x → rule_titles bs n ≡ rule_names x
titles_names bs n x h = ap₂ (λ (m : List ℕ) (ms : List (List ℕ)). m ∷ ms) h.fixed.name (says_names bs (vec_items n.others) x.others h.others)

-- ---- what the fields say
pub fields_say : (bs : List ℕ) (ps : List (List ℕ)) (at : ℕ) (n s b : List ℕ) (l : RuleLine) → take (length n) (drop at bs) ≡ n → Fields ps at n s b l → LineSays bs l (line_of ps n s b)
fields_say bs ps at n s b l stands h = record { name = ap (part_of bs) h.0 ∙ stands; weights = h.1; bound = h.2 }

-- ---- a rule line
module _ (taken ps : List (List ℕ)) (bs : List ℕ) (n : RulesText) (k s : ℕ) (nm m b : List ℕ) (x : said.RulesText) (says : RulesSay bs n x) where
  abbrev lines_read : List Check
  lines_read = line_checks (taken ++ rule_names x) ps (s + 5) nm m b

  abbrev after : said.RulesText
  after = after_rule ps (Some x) (a_rule nm m b)

  same_room : ltb (vec_len n.others) 12 ≡ ltb (length x.others) 12
  same_room = ap (λ (i : ℕ). ltb i 12) (n.others.ok.0 ∙ says_length bs (vec_items n.others) x.others says.others)

  same_titles : taken ++ rule_titles bs n ≡ taken ++ rule_names x
  same_titles = ap (λ (ns : List (List ℕ)). taken ++ ns) (titles_names bs n x says)

  pub no_room : (f : TextFault) → Err f ≡ checked {A = Unit {0}} (check (ltb (vec_len n.others) 12) TooMany s ∷ []) k tt → rule_read taken ps x k s (a_rule nm m b) ≡ Err f
  no_room f h = sym (stops (check (ltb (length x.others) 12) TooMany s ∷ []) lines_read k tt (Ok after) f (h ∙ ap (λ (t : Bool). checked {A = Unit {0}} (check t TooMany s ∷ []) k tt) same_room))

  module _ (room : ltb (vec_len n.others) 12 ≡ true) where
    after_room : first_failed (checks_of taken ps (Some x) s (a_rule nm m b)) ≡ first_failed lines_read
    after_room = cond-true _ _ _ (sym same_room ∙ room)

    pub line_refused : (f : TextFault) → Err f ≡ checked {A = Unit {0}} (line_checks (taken ++ rule_titles bs n) ps (s + 5) nm m b) k tt → rule_read taken ps x k s (a_rule nm m b) ≡ Err f
    line_refused f h =
        ap (λ (o : Option Check). unless o k (Ok after)) after_room ∙ go (first_failed lines_read) (h ∙ ap (λ (ns : List (List ℕ)). checked {A = Unit {0}} (line_checks ns ps (s + 5) nm m b) k tt) same_titles)
      where
        go : (o : Option Check) → ◌≡◌ {A = Result (Unit {0}) TextFault} (Err f) (unless o k (Ok tt)) → ◌≡◌ {A = Result said.RulesText TextFault} (unless o k (Ok after)) (Err f)
        go None q = let z : ◌≡◌ {A = ℕ} 0 1 = cc in absurd (omega arith)
        go (Some c) q = cc

    module _ (l : RuleLine) (os : Vec RuleLine Global) (pushed : vec_items os ≡ vec_items n.others ++ (l ∷ [])) (stands : take (length nm) (drop (s + 5) bs) ≡ nm)
        (fine : first_failed (line_checks (taken ++ rule_titles bs n) ps (s + 5) nm m b) ≡ None) (fields : Fields ps (s + 5) nm m b l) where
      abbrev with_rule : RulesText
      with_rule = record { fixed = n.fixed; others = os }

      pub rule_added : (rule_read taken ps x k s (a_rule nm m b) ≡ Ok after) × RulesSay bs with_rule after
      rule_added = (
        ap (λ (o : Option Check). unless o k (Ok after)) (after_room ∙ ap (λ (ns : List (List ℕ)). first_failed (line_checks ns ps (s + 5) nm m b)) (sym same_titles) ∙ fine),
        record {
          fixed = says.fixed;
          others = subst (λ (ls : List RuleLine). EachSays bs ls (x.others ++ (line_of ps nm m b ∷ []))) (sym pushed)
              (says_push bs (vec_items n.others) x.others l (line_of ps nm m b) says.others (fields_say bs ps (s + 5) nm m b l stands fields));
        },
      )

-- ---- where names stand: one item more, at the end
named_push : {X : Type 0} (f : X → ℕ) (g : ℕ → ℕ) (xs : List X) (x d : X) → ((i : ℕ) → i < length xs → f (get_or xs i d) ≡ g i) → f x ≡ g (length xs) → (i : ℕ) → i < length xs + 1 → f (get_or (xs ++ (x ∷ [])) i d) ≡ g i
named_push f g xs x d all new i h = go (cases_lt i (length xs))
  where
    go : (i < length xs) ⊎ (length xs ≤ i) → f (get_or (xs ++ (x ∷ [])) i d) ≡ g i
    go (inl l) = ap f (get_or_append_left xs (x ∷ []) d i l) ∙ all i l
    go (inr l) = let e : length xs ≡ i = omega arith in ap f (get_or_push xs x d i e) ∙ new ∙ ap g e

pub rule_located : (bs : List ℕ) (n : RulesText) (s : ℕ) (l : RuleLine) (os : Vec RuleLine Global) → vec_items os ≡ vec_items n.others ++ (l ∷ []) → l.name.start ≡ s + 5 → Locates bs n (record { fixed = n.fixed; others = os }) s
rule_located bs n s l os pushed here known start =
    let count : length (vec_items os) ≡ length (vec_items n.others) + 1 = ap length pushed ∙ length_push (vec_items n.others) l in (
      record {
        fixed = known.fixed;
        others = λ i h. subst (λ (qs : List RuleLine). (get_or qs i no_rule).name.start ≡ line_start bs (i + 1) + 5) (sym pushed)
            (named_push (λ (q : RuleLine). q.name.start) (λ (j : ℕ). line_start bs (j + 1) + 5) (vec_items n.others) l no_rule known.others (here ∙ ap (λ (j : ℕ). j + 5) (sym start)) i (omega arith));
      },
      count,
    )
