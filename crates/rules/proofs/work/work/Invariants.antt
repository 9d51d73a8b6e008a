use Rattle.rules.specs.Rules.{rule_of, worked_of}
use Rattle.rules.proofs.Progress.{Progress}
use Rattle.rules.proofs.work.work.Given as goal

abbrev pub invariant-rounds : goal.invariant-rounds
invariant-rounds g l = Progress (g.N.Net.net l.net) (rule_of l.typed) (worked_of l.rule) l.counter
