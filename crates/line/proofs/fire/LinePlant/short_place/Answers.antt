use Rattle.std.proofs.Common.{sym, ◌∙◌}
use Rattle.line.proofs.Firing.{short_is, short_none}
use Rattle.line.proofs.fire.LinePlant.short_place.Goals as goal

pub returns-in_err-from : goal.returns-in_err-from
returns-in_err-from c = c.from_residual.ensures ∙ sym (short_none c.args.self.now c.args.t (sym c.in_err-from.ensures.value))

pub returns : goal.returns
returns c = c.then_some.ensures ∙ sym (short_is c.args.self.now c.args.t c.in_ok-from.from c.in_ok-from.ensures.place.0 c.in_ok-from.ensures.place.1)
