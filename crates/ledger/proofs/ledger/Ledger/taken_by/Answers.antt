use Rattle.std.proofs.Common.{arith}
use Rattle.model.specs.Net.{Net, Ranges}
use Rattle.ledger.specs.Grants.{opened}
use Rattle.ledger.proofs.Counting.{one_taken}
use Rattle.ledger.proofs.ledger.Ledger.taken_by.Goals as goal

pub overflow_mul-result : goal.overflow_mul-result
overflow_mul-result g c =
    let s = c.args.self.now in
    let n : Net = g.P.Net.net s.pile in
    let r : Ranges n = g.met.P.Net.sound s.pile in
    rw (c.of.ensures, c.take.ensures) (omega (arith, one_taken n r (opened s.grants.counts) (omega (arith, s.tallied.few, s.tallied.total_is)) c.args.p c.args.t))
