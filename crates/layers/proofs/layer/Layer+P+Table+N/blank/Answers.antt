use Rattle.model.specs.Layer.{row_count}
use Rattle.layers.specs.Rows.{top_of, rows_of}
use Rattle.layers.proofs.Fresh.{fresh}
use Rattle.layers.proofs.OnTop.{on_top}
use Rattle.layers.proofs.layer.Layer+P+Table+N.blank.Goals as goal

pub returns-clause-fresh : goal.returns-clause-fresh
returns-clause-fresh g c = fresh (top_of g.row.N) (g.P.Net.net c.args.below) (g.P.Plant.tokens c.args.below) _ c.blank.ensures

pub returns-clause-on_top : goal.returns-clause-on_top
returns-clause-on_top g c = on_top (row_count (top_of g.row.N)) (g.P.Net.net c.args.below) (rows_of c.blank.result.rows) (g.P.Plant.tokens c.args.below)
