use Rattle.std.proofs.Common.{◌≡◌, get_or, pos, ◌*ℤ◌, ap, ◌∙◌, arith, rules, w32, to_z, of_z}
use Rattle.std.proofs.lemmas.Int.{ints}
use Rattle.model.specs.Net.{signed_sum}
use Rattle.rules.proofs.worked.WorkedRule.weighted.Goals as goal

pub returns-clause-value : goal.returns-clause-value
returns-clause-value g c =
    let s = c.args.plant.now in
    let read : to_z w32 (of_z w32 c.weighted_by.result) ≡ c.weighted_by.result = omega (arith, ints, c.weighted_by.ensures.small) in
    read ∙ c.weighted_by.ensures.value (λ p. pos (g.P.Plant.tokens s p)) (λ p z l k. search rules)
    ∙ ap (λ k. signed_sum k (λ p. get_or c.args.self.now.weights p (pos 0) *ℤ pos (g.P.Plant.tokens s p))) c.ground.ensures
