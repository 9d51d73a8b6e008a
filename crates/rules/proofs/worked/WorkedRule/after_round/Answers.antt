use Rattle.std.proofs.Common.{◌+◌, sym, refl, arith}
use Rattle.std.proofs.lemmas.Result.{err_from_is_err_and}
use Rattle.model.proofs.Checks.{refuse_unless_ok}
use Rattle.rules.specs.Rules.{worked_of}
use Rattle.rules.proofs.Changing.{outcome, too_large, is_changed, weights_small, bound_small}
use Rattle.rules.proofs.worked.WorkedRule.after_round.Goals as goal

pub returns-in_err-unless : goal.returns-in_err-unless
returns-in_err-unless g c =
    let o = outcome (g.N.Net.net c.args.net.now) (worked_of c.args.self.now) c.args.t c.args.p (record { place = c.absorption-absorption.result.place; factor = c.absorption-absorption.result.factor; addend = c.absorption-absorption.result.addend }) (sym c.absorption-absorption.ensures)
    c.absorbed_weights-weights.result c.absorbed_weights-weights.ensures c.absorbed_bound-bound.result (record { sfits = c.absorbed_bound-bound.type_inv }) c.absorbed_bound-bound.ensures
    c.in_range-small.result c.in_range-small.ensures in
    let e = err_from_is_err_and c.from_residual.result c.from_residual.ensures.1 in
    rw (e.1, e.2) (too_large c.requires o _ c.of_setting.ensures _ c.in_err-unless.ensures)

pub invariant_of-result : goal.invariant_of-result
invariant_of-result g c =
    let o = outcome (g.N.Net.net c.args.net.now) (worked_of c.args.self.now) c.args.t c.args.p (record { place = c.absorption-absorption.result.place; factor = c.absorption-absorption.result.factor; addend = c.absorption-absorption.result.addend }) (sym c.absorption-absorption.ensures)
    c.absorbed_weights-weights.result c.absorbed_weights-weights.ensures c.absorbed_bound-bound.result (record { sfits = c.absorbed_bound-bound.type_inv }) c.absorbed_bound-bound.ensures
    c.in_range-small.result c.in_range-small.ensures in
    record { small_weights = weights_small c.requires o (refuse_unless_ok _ _ (sym c.in_ok-unless.ensures)); small_bound = bound_small c.requires o (refuse_unless_ok _ _ (sym c.in_ok-unless.ensures)); few_rounds = omega (arith, c.requires.rounds_left) }

pub returns : goal.returns
returns g c =
    let o = outcome (g.N.Net.net c.args.net.now) (worked_of c.args.self.now) c.args.t c.args.p (record { place = c.absorption-absorption.result.place; factor = c.absorption-absorption.result.factor; addend = c.absorption-absorption.result.addend }) (sym c.absorption-absorption.ensures)
    c.absorbed_weights-weights.result c.absorbed_weights-weights.ensures c.absorbed_bound-bound.result (record { sfits = c.absorbed_bound-bound.type_inv }) c.absorbed_bound-bound.ensures
    c.in_range-small.result c.in_range-small.ensures in
    is_changed c.requires o (c.args.self.now.rounds + 1) refl (refuse_unless_ok _ _ (sym c.in_ok-unless.ensures))
