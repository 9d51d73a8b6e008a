use Rattle.std.proofs.Common.{arith}
use Rattle.model.specs.Net.{Net, Ranges}
use Rattle.ledger.specs.Grants.{opened}
use Rattle.ledger.proofs.Counting.{free_and_taken}
use Rattle.ledger.proofs.ledger.Ledger.marking.Goals as goal

pub overflow_add-result : goal.overflow_add-result
overflow_add-result g c =
    let s = c.args.self.now in
    let n : Net = g.P.Net.net s.pile in
    let r : Ranges n = g.met.P.Net.sound s.pile in
    rw (c.free.ensures, c.taken.ensures)
    (omega (arith, free_and_taken n r (opened s.grants.counts) (omega (arith, s.tallied.few, s.tallied.total_is)) c.args.p (g.P.Plant.tokens s.pile c.args.p) (g.met.P.Plant.within s.pile c.args.p)))
