use Rattle.std.proofs.Common.{not, ◌&&◌, ltb, sym, ap, ◌∙◌, arith}
use Rattle.model.specs.Net.{Net}
use Rattle.model.specs.Layer.{row_count, is_shut}
use Rattle.model.proofs.Checks.{err_not_ok}
use Rattle.layers.proofs.Calls.{finishes}
use Rattle.layers.specs.Rows.{rows_of, top_of}
use Rattle.layers.proofs.as_plant.LayerTablePlant.finish.Goals as goal

-- accepted as a whole, so not refused below
pub returns-in_err-finish : goal.returns-in_err-finish
returns-in_err-finish g c =
    let s = c.args.self.now in
    absurd (err_not_ok _ (c.in_err-finish.ensures.answer ∙ sym (finishes (row_count (top_of g.row.N)) (g.P.Net.net s.below) (g.P.Plant.tokens s.below) (rows_of s.rows.rows) c.args.t s.rows.kept c.in_ok-may_finish.ensures).0))

pub finish-requires-then-rows_give : goal.finish-requires-then-rows_give
finish-requires-then-rows_give g c =
    let s = c.args.self.now in
    let counts = c.if-rows_give.ensures ∙ ap (λ (m : Net). not (is_shut (row_count (top_of g.row.N)) m) && ltb c.args.t m.moves) c.finish.ensures.same in
    let h = (finishes (row_count (top_of g.row.N)) (g.P.Net.net s.below) (g.P.Plant.tokens s.below) (rows_of s.rows.rows) c.args.t s.rows.kept c.in_ok-may_finish.ensures).1 counts in
    (omega arith, h)
