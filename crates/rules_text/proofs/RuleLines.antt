-- The checks of a rule's fields: its name, its sum, its bound.
use Rattle.std.proofs.Common.{◌≡◌, ℕ, ◌+◌, true, List, [], ◌∷◌, ◌++◌, length, ℤ, None, Ok, Err, Option, Result, sym, ap, ◌∙◌}
use Rattle.std.proofs.lemmas.Bool.{cond-true}
use Rattle.model.specs.declared.refusal.Refusal.TheVariants.{Field}
use Rattle.formats.specs.declared.fault.TextFault.{TextFault}
use Rattle.formats.specs.Words.{is_name, is_new}
use Rattle.formats.specs.Texts.{Check, check, first_failed, unless}
use Rattle.formats.specs.Sums.{lead_length, terms, sum_checks}
use Rattle.formats.specs.RulesText.{is_bound, bound_of, line_checks}
use Rattle.texts.specs.Spans.{checked}
use Rattle.texts.proofs.Checking.{stops, goes, then_stops}

module _ (used ps : List (List ℕ)) (at k : ℕ) (n s b : List ℕ) where
  abbrev of_sum : List Check
  of_sum = sum_checks ps (at + length n + 1 + lead_length s) [] (terms s)

  abbrev of_bound : List Check
  of_bound = check (is_bound b) Field (at + length n + 1 + length s + 1) ∷ []

  abbrev answer : Result (Unit {0}) TextFault
  answer = checked (line_checks used ps at n s b) k tt

  abbrev fine : Result (Unit {0}) TextFault
  fine = Ok tt

  module _ (named : is_name n ≡ true) (new : is_new used n ≡ true) where
    after_names : first_failed (line_checks used ps at n s b) ≡ first_failed (of_sum ++ of_bound)
    after_names = cond-true _ _ _ named ∙ cond-true _ _ _ new

    to_answer : (f : TextFault) → ◌≡◌ {A = Result (Unit {0}) TextFault} (Err f) (unless (first_failed (of_sum ++ of_bound)) k (Ok tt)) → Err f ≡ answer
    to_answer f h = h ∙ ap (λ (o : Option Check). unless {X = Unit {0}} o k (Ok tt)) (sym after_names)

    pub sum_refused : (f : TextFault) → Err f ≡ checked {A = Unit {0}} of_sum k tt → Err f ≡ answer
    sum_refused f h = to_answer f (stops of_sum of_bound k tt (Ok tt) f h)

    module _ (summed : first_failed of_sum ≡ None) where
      sum_passed : fine ≡ checked of_sum k tt
      sum_passed = sym (ap (λ (o : Option Check). unless {X = Unit {0}} o k (Ok tt)) summed)

      pub bound_refused : (f : TextFault) → Err f ≡ checked of_bound k (bound_of b) → Err f ≡ answer
      bound_refused f h = to_answer f (then_stops of_sum of_bound k tt tt (Ok tt) f sum_passed (stops of_bound [] k (bound_of b) (Ok tt) f h))

      pub line_fine : (z : ℤ) → Ok z ≡ checked of_bound k (bound_of b) → (first_failed (line_checks used ps at n s b) ≡ None) × (z ≡ bound_of b)
      line_fine z h =
          let w = goes of_bound [] k (bound_of b) z h in
          (after_names ∙ (goes of_sum of_bound k tt tt sum_passed).1 ∙ w.1, w.0)
