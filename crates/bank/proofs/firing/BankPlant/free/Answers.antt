use Rattle.std.proofs.Common.{sym}
use Rattle.bank.specs.Words.{bit_beyond}
use Rattle.bank.proofs.firing.BankPlant.free.Goals as goal

-- no token stands beyond the places
pub returns-else-p-self : goal.returns-else-p-self
returns-else-p-self c =
    let s = c.args.self.now in
    sym (bit_beyond s.tokens s.count c.args.p s.inside c.if-p-self.false)
