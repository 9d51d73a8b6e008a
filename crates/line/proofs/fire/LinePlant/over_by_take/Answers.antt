use Rattle.std.proofs.Common.{sym, ap, ◌∙◌}
use Rattle.std.specs.Bool.{then_some}
use Rattle.line.proofs.Firing.{over_take_is, over_take_none}
use Rattle.line.proofs.fire.LinePlant.over_by_take.Goals as goal

pub returns-in_err-from : goal.returns-in_err-from
returns-in_err-from c = c.from_residual.ensures ∙ sym (over_take_none c.args.self.now c.args.t (sym c.in_err-from.ensures.value))

pub returns : goal.returns
returns c = c.then_some.ensures ∙ ap (λ b. then_some b c.in_ok-from.from) c.is_full.ensures ∙ sym (over_take_is c.args.self.now c.args.t c.in_ok-from.from c.in_ok-from.ensures.place.0 c.in_ok-from.ensures.place.1)
