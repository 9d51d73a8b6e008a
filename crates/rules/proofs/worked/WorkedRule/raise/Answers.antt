use Rattle.std.proofs.Common.{◌≡◌, get_or, pos, ◌*ℤ◌, ap, ◌∙◌, arith, rules, w32, to_z, of_z}
use Rattle.std.proofs.lemmas.Int.{ints}
use Rattle.model.specs.Net.{signed_sum, incidence}
use Rattle.rules.proofs.worked.WorkedRule.raise.Goals as goal

pub returns : goal.returns
returns g c =
    let n = g.N.Net.net c.args.net.now in
    let read : to_z w32 (of_z w32 c.weighted_by.result) ≡ c.weighted_by.result = omega (arith, ints, c.weighted_by.ensures.small) in
    read ∙ c.weighted_by.ensures.value (λ p. incidence n p c.args.t) (λ p z l k. search rules)
    ∙ ap (λ k. signed_sum k (λ p. get_or c.args.self.now.weights p (pos 0) *ℤ incidence n p c.args.t)) c.ground.ensures
