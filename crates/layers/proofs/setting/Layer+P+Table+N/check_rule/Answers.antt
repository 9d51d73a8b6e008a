use Rattle.std.proofs.Common.{◌∙◌, w32, SFits, rules, arith}
use Rattle.std.proofs.lemmas.Grind.{common_steps}
use Rattle.std.proofs.lemmas.Result.{err_from_is_err_and}
use Rattle.std.proofs.lemmas.Int.{to_z-of_z}
use Rattle.model.specs.Layer.{row_count}
use Rattle.rules.specs.Rules.{rule_of, worked_of}
use Rattle.layers.specs.Piles.{pile_of}
use Rattle.layers.specs.Shut.{row_unused}
use Rattle.layers.proofs.Checking.{passed, broken, holds}
use Rattle.layers.specs.Rows.{rows_of, top_of}
use Rattle.layers.proofs.setting.Layer+P+Table+N.check_rule.Goals as goal

pub returns-in_err-unless-3 : goal.returns-in_err-unless-3
returns-in_err-unless-3 g c =
    let s = c.args.self.now in
    let p = pile_of g.P.Net.net g.P.Plant.tokens s in
    let clear = passed _ _ _ c.in_ok-unless.ensures c.is_shut.ensures in
    let unused = row_unused (row_count (top_of g.row.N)) (g.P.Net.net s.below) (rows_of s.rows.rows) c.args.r clear (passed _ _ _ c.in_ok-unless-2.ensures c.in_use.ensures) in
    let fits : SFits w32 c.spare.result = search rules in
    let e = err_from_is_err_and c.from_residual-in_err-unless-3.result c.from_residual-in_err-unless-3.ensures.1 in
    rw (e.1, e.2)
    (broken p c.args.r (rule_of c.args.typed.now) clear unused (worked_of c.in_ok-rule.rule) c.in_ok-rule.ensures.answer _ (to_z-of_z w32 c.spare.result fits ∙ c.spare.ensures) _ c.of_setting-3.ensures _ c.in_err-unless-3.ensures)

pub returns : goal.returns
returns g c =
    let s = c.args.self.now in
    let p = pile_of g.P.Net.net g.P.Plant.tokens s in
    let clear = passed _ _ _ c.in_ok-unless.ensures c.is_shut.ensures in
    let unused = row_unused (row_count (top_of g.row.N)) (g.P.Net.net s.below) (rows_of s.rows.rows) c.args.r clear (passed _ _ _ c.in_ok-unless-2.ensures c.in_use.ensures) in
    let fits : SFits w32 c.spare.result = search rules in
    holds p c.args.r (rule_of c.args.typed.now) clear unused (worked_of c.in_ok-rule.rule) c.in_ok-rule.ensures.answer _ (to_z-of_z w32 c.spare.result fits ∙ c.spare.ensures) _ c.of_setting-3.ensures c.in_ok-unless-3.ensures

pub returns-in_err-unless-2 : goal.returns-in_err-unless-2
returns-in_err-unless-2 g c =
    let clear = passed _ _ _ c.in_ok-unless.ensures c.is_shut.ensures in
    grind (arith, common_steps)
