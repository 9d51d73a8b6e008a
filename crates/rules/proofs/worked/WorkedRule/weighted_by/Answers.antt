use Rattle.std.proofs.Common.{get_or, pos, arith, rules}
use Rattle.std.proofs.lemmas.Iterator.{serves_from_Range}
use Rattle.rules.proofs.Summing.{term_fits, sum_fits, sum_is}
use Rattle.rules.proofs.worked.WorkedRule.weighted_by.Goals as goal

pub sum-requires-clause-can : goal.sum-requires-clause-can
sum-requires-clause-can g c = (tt, serves_from_Range (λ x q k. search rules) (λ x low high. search (rules, term_fits, c.requires.limited, c.args.self.now.small_weights)))

pub sum-requires-clause-fits : goal.sum-requires-clause-fits
sum-requires-clause-fits g c =
    sum_fits c.map.result.f c.args.ground (λ p. get_or c.args.self.now.weights p (pos 0)) (goal.F-post g c.args.value) c.requires.few c.args.self.now.small_weights c.requires.limited
    (λ i r q l k. search rules) c.map.result (search rules) (search rules)

pub returns : goal.returns
returns g c =
    let so = sum_is c.map.result.f c.args.ground (λ p. get_or c.args.self.now.weights p (pos 0)) (goal.F-post g c.args.value) c.requires.few c.args.self.now.small_weights c.requires.limited
    (λ i r q l k. search rules) c.map.result (search rules) (search rules) c.sum.result c.sum.ensures.ran in
    record { small = omega (arith, so.0, c.requires.few); value = so.1 }
