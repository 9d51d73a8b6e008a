use Rattle.std.proofs.Common.{◌-◌}
use Rattle.layers.proofs.Rowwise.{Changed}
use Rattle.layers.proofs.table.Table.begin.Given as goal

abbrev pub invariant-begun : goal.invariant-begun
invariant-begun g l = Changed (λ x. x.free - x.take l.t) l.fn.self.rows l.row-index l.row-items
