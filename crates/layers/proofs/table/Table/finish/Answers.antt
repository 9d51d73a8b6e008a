use Rattle.std.proofs.Common.{◌+◌, refl, arith}
use Rattle.layers.proofs.Rowwise.{all_changed}
use Rattle.layers.proofs.table.Table.finish.Goals as goal

pub returns : goal.returns
returns g c = all_changed (λ x. x.free + x.give c.args.t) c.args.self.now.rows c.finished.row-items c.finished.row-index refl (omega arith) c.finished.invariant
