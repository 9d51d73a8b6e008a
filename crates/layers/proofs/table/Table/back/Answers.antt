use Rattle.std.proofs.Common.{◌+◌, refl, arith}
use Rattle.layers.proofs.Rowwise.{all_changed}
use Rattle.layers.proofs.table.Table.back.Goals as goal

pub returns : goal.returns
returns g c = all_changed (λ x. x.free + x.take c.args.t) c.args.self.now.rows c.gone_back.row-items c.gone_back.row-index refl (omega arith) c.gone_back.invariant
