use Rattle.std.proofs.Common.{◌≡◌, length, get_or, pos, ◌+ℤ◌, ◌*ℤ◌, ap, ◌∙◌, arith, w32, to_z, of_z, rules}
use Rattle.rules.proofs.Absorbing.{factor_kept, one_added, weight_fits, weight_is}
use Rattle.rules.proofs.worked.WorkedRule.absorbed_weights.Goals as goal

pub overflow_add-weights : goal.overflow_add-weights
overflow_add-weights c =
    let x = c.args.absorption in
    let w = c.args.self.now in
    weight_fits x.factor (get_or w.weights x.place (pos 0)) (get_or c.scaled-weights.result x.place (pos 0)) x.addend x.modest.factor_small (w.small_weights x.place)
    (c.scaled-weights.ensures x.place ∙ ap (λ z. z *ℤ get_or w.weights x.place (pos 0)) (factor_kept x.factor x.modest.factor_small)) x.modest.addend_small

pub returns : goal.returns
returns c =
    let x = c.args.absorption in
    let w = c.args.self.now in
    let s = c.scaled-weights.result in
    let size : length s ≡ 32 = search rules in
    one_added s x.place (to_z w32 (of_z w32 (to_z w32 (of_z w32 (get_or s x.place (pos 0))) +ℤ to_z w32 (of_z w32 x.addend)))) x.addend (λ p. x.factor *ℤ get_or w.weights p (pos 0)) (omega arith)
    (λ p. c.scaled-weights.ensures p ∙ ap (λ z. z *ℤ get_or w.weights p (pos 0)) (factor_kept x.factor x.modest.factor_small))
    (weight_is x.factor (get_or w.weights x.place (pos 0)) (get_or s x.place (pos 0)) x.addend x.modest.factor_small (w.small_weights x.place)
    (c.scaled-weights.ensures x.place ∙ ap (λ z. z *ℤ get_or w.weights x.place (pos 0)) (factor_kept x.factor x.modest.factor_small)) x.modest.addend_small)
