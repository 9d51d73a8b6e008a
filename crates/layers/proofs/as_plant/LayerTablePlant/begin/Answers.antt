use Rattle.std.proofs.Common.{not, ◌&&◌, sym, ap, ◌∙◌, arith}
use Rattle.model.specs.Net.{Net}
use Rattle.model.specs.Layer.{row_count, is_shut}
use Rattle.model.proofs.Checks.{err_not_ok}
use Rattle.layers.proofs.Calls.{begins}
use Rattle.layers.specs.Rows.{rows_of, top_of}
use Rattle.layers.proofs.as_plant.LayerTablePlant.begin.Goals as goal

-- accepted as a whole, so not refused below
pub returns-in_err-begin : goal.returns-in_err-begin
returns-in_err-begin g c =
    let s = c.args.self.now in
    absurd (err_not_ok _ (c.in_err-begin.ensures.answer ∙ sym (begins (row_count (top_of g.row.N)) (g.P.Net.net s.below) (g.P.Plant.tokens s.below) (rows_of s.rows.rows) c.args.t c.in_ok-may_begin.ensures).0))

pub begin-requires-then-rows_take : goal.begin-requires-then-rows_take
begin-requires-then-rows_take g c =
    let s = c.args.self.now in
    let counts = c.if-rows_take.ensures ∙ ap (λ (m : Net). not (is_shut (row_count (top_of g.row.N)) m) && m.controllable c.args.t) c.begin.ensures.same in
    let h = (begins (row_count (top_of g.row.N)) (g.P.Net.net s.below) (g.P.Plant.tokens s.below) (rows_of s.rows.rows) c.args.t c.in_ok-may_begin.ensures).1 counts in
    (omega arith, h)
