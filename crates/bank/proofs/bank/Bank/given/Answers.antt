use Rattle.bank.specs.Banks.{letter}
use Rattle.bank.proofs.Calls.{finished_bits}
use Rattle.bank.proofs.bank.Bank.given.Goals as goal

pub returns-clause-after : goal.returns-clause-after
returns-clause-after c =
    let s = c.args.self.now in
    finished_bits s.count s.tokens (letter s.letters) c.args.t s.whole c.with_bit.result c.requires (rw c.next_place.ensures at c.with_bit.ensures.bits)
