use Rattle.std.proofs.Common.{◌-◌, refl, arith}
use Rattle.layers.proofs.Rowwise.{all_changed}
use Rattle.layers.proofs.table.Table.begin.Goals as goal

pub returns : goal.returns
returns g c = all_changed (λ x. x.free - x.take c.args.t) c.args.self.now.rows c.begun.row-items c.begun.row-index refl (omega arith) c.begun.invariant
