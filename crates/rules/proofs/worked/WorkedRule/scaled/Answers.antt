use Rattle.std.proofs.Common.{◌≤◌, get_or, set, pos, nat_abs, ◌*ℤ◌, ap, ap₂, sym, subst, ◌∙◌, ⊎_elim, arith, w32, to_z, of_z, length-set}
use Rattle.std.proofs.lemmas.List.{get_or-set_same, get_or-set_other}
use Rattle.std.proofs.lemmas.Bool.{cases_eq}
use Rattle.model.specs.Sizes.{most_worked_weight}
use Rattle.rules.proofs.Absorbing.{scaled_is, factor_kept}
use Rattle.rules.proofs.worked.WorkedRule.scaled.Goals as goal

pub places-preserved : goal.places-preserved
places-preserved c =
    let ws = c.args.self.now.weights in
    let i = c.places.weight-index in
    let is = c.places.weight-items in
    let f = c.args.factor in
    let v = to_z w32 (of_z w32 (to_z w32 (of_z w32 f) *ℤ to_z w32 (of_z w32 (get_or is i (pos 0))))) in
    let kept = c.places.invariant.rest i (omega arith) in
    let small = subst (λ z. nat_abs z ≤ most_worked_weight) (sym kept) (c.args.self.now.small_weights i) in
    record {
      long = length-set is i v ∙ c.places.invariant.long;
      done = λ q l.
          ⊎_elim
          (λ e. ap (λ j. get_or (set is i v) j (pos 0)) e ∙ get_or-set_same is i v (pos 0) (omega (arith, c.places.invariant.long, c.places-test.true))
          ∙ scaled_is f (get_or is i (pos 0)) c.requires small
          ∙ ap₂ (λ a b. a *ℤ b) (sym (factor_kept f c.requires)) (kept ∙ ap (λ j. get_or ws j (pos 0)) (sym e)))
          (λ ne. get_or-set_other is i q v (pos 0) ne ∙ c.places.invariant.done q (omega arith))
          (cases_eq q i);
      rest = λ q h. get_or-set_other is i q v (pos 0) (λ e. omega (arith, e)) ∙ c.places.invariant.rest q (omega arith);
    }
