use Rattle.std.proofs.Common.{◌+◌, ltb, rules, tests}
use Rattle.model.specs.Layer.{Row, row_count}
use Rattle.model.specs.Sizes.{control_limit}
use Rattle.layers.specs.Rows.{rows_of, top_of}
use Rattle.layers.proofs.Calls.{over_take_is}
use Rattle.layers.proofs.as_plant.LayerTablePlant.over_by_take.Goals as goal

pub returns : goal.returns
returns g c =
    let s = c.args.self.now in
    let told = c.or_row.ensures (λ (x : Row). ltb control_limit (x.free + x.take c.args.t)) (λ row b k. search (rules, tests)) in
    cc (told, over_take_is (row_count (top_of g.row.N)) (g.P.Net.net s.below) (g.P.Plant.tokens s.below) (rows_of s.rows.rows) c.args.t s.rows.kept)
