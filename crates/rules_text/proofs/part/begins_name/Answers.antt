use Rattle.std.proofs.Common.{rules, tests, arith}
use Rattle.rules_text.proofs.Parts.{begins_at}
use Rattle.rules_text.proofs.part.begins_name.Goals as goal

pub returns : goal.returns
returns c = begins_at c.args.sum.now c.args.i c.get.result c.is_some_and.result _ (c.get.ensures.lookup.4 (omega arith) 0) c.is_some_and.ensures (λ x q. search (rules, tests))
