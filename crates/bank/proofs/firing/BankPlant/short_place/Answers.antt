use Rattle.std.proofs.Common.{arith}
use Rattle.bank.specs.Banks.{letter}
use Rattle.bank.proofs.Calls.{short_is}
use Rattle.bank.proofs.firing.BankPlant.short_place.Goals as goal

pub returns : goal.returns
returns c = let s = c.args.self.now in grind (arith, short_is s.count s.tokens (letter s.letters) c.args.t)
