use Rattle.bank.specs.Banks.{letter}
use Rattle.bank.proofs.Calls.{gone_back_bits}
use Rattle.bank.proofs.bank.Bank.returned.Goals as goal

pub returns-clause-after : goal.returns-clause-after
returns-clause-after c =
    let s = c.args.self.now in
    gone_back_bits s.count s.tokens (letter s.letters) c.args.t c.with_bit.result c.requires c.with_bit.ensures.bits
