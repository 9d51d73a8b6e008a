use Rattle.std.proofs.Common.{arith}
use Rattle.bank.specs.Banks.{letter}
use Rattle.bank.proofs.Calls.{over_give_is}
use Rattle.bank.proofs.firing.BankPlant.over_by_give.Goals as goal

pub returns : goal.returns
returns c = let s = c.args.self.now in grind (arith, over_give_is s.count s.tokens (letter s.letters) c.args.t s.whole)
