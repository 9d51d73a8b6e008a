use Rattle.std.proofs.Common.{◌+◌}
use Rattle.layers.proofs.Rowwise.{Changed}
use Rattle.layers.proofs.table.Table.back.Given as goal

abbrev pub invariant-gone_back : goal.invariant-gone_back
invariant-gone_back g l = Changed (λ x. x.free + x.take l.t) l.fn.self.rows l.row-index l.row-items
