use Rattle.std.specs.Fn.{FnReturnsAt}
use Rattle.bank.proofs.Building.{BitsTo}
use Rattle.bank.proofs.making.bits.Given as goal

abbrev pub invariant-loop-k : goal.invariant-loop-k
invariant-loop-k g l = BitsTo (FnReturnsAt g.F.Fn l.test) l.items l.k l.word
