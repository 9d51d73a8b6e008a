use Rattle.std.proofs.Common.{◌+◌}
use Rattle.layers.proofs.Rowwise.{Changed}
use Rattle.layers.proofs.table.Table.finish.Given as goal

abbrev pub invariant-finished : goal.invariant-finished
invariant-finished g l = Changed (λ x. x.free + x.give l.t) l.fn.self.rows l.row-index l.row-items
