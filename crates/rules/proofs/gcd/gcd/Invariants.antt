use Rattle.rules.proofs.Remainders.{SameDivisors}
use Rattle.rules.proofs.gcd.gcd.Given as goal

abbrev pub invariant-remainders : goal.invariant-remainders
invariant-remainders l = SameDivisors l.a l.e l.larger l.smaller

abbrev pub decreases-remainders : goal.decreases-remainders
decreases-remainders l = l.smaller
