use Rattle.std.proofs.Common.{◌∙◌, rules}
use Rattle.rules_text.proofs.Bounds.{minus_said}
use Rattle.rules_text.proofs.read.bound.Goals as goal

pub returns-in_ok-n-in-45 : goal.returns-in_ok-n-in-45
returns-in_ok-n-in-45 c = c.then_some.ensures ∙ minus_said c.args.field.now c.in_ok-n-in-45.n (search rules) c.in_ok-n-in-45.ensures.value c.in_ok-n-in-45.ensures.within.1
