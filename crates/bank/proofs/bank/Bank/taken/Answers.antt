use Rattle.bank.specs.Banks.{letter}
use Rattle.bank.proofs.Calls.{begun_bits}
use Rattle.bank.proofs.bank.Bank.taken.Goals as goal

pub returns-clause-after : goal.returns-clause-after
returns-clause-after c =
    let s = c.args.self.now in
    begun_bits s.count s.tokens (letter s.letters) c.args.t c.without_bit.result c.requires c.without_bit.ensures.bits
