use Rattle.std.proofs.Common.{sym, ap, ◌∙◌}
use Rattle.std.specs.Bool.{then_some}
use Rattle.line.proofs.Firing.{over_give_is, over_give_none}
use Rattle.line.proofs.fire.LinePlant.over_by_give.Goals as goal

pub returns-in_err-to : goal.returns-in_err-to
returns-in_err-to c = c.from_residual.ensures ∙ sym (over_give_none c.args.self.now c.args.t (sym c.in_err-to.ensures.value))

pub returns : goal.returns
returns c = c.then_some.ensures ∙ ap (λ b. then_some b c.in_ok-to.to) c.is_full.ensures ∙ sym (over_give_is c.args.self.now c.args.t c.in_ok-to.to c.in_ok-to.ensures.place.0 c.in_ok-to.ensures.place.1)
