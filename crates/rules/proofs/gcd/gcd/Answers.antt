use Rattle.std.proofs.Common.{arith}
use Rattle.rules.proofs.Remainders.{same_next, greatest_last}
use Rattle.rules.proofs.gcd.gcd.Goals as goal

pub remainders-preserved : goal.remainders-preserved
remainders-preserved c = same_next c.remainders.invariant

pub returns : goal.returns
returns c = greatest_last c.remainders.invariant (omega arith)
