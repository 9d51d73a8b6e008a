use Rattle.std.proofs.Common.{◌≡◌, ◌≤◌, false, T, ℤ, nat_abs, sym, refl, ap, ◌∙◌, subst, w32, SFits, rules, arith}
use lib.Signed.{non_neg}
use Rattle.std.proofs.lemmas.Int.{to_z-of_z}
use Rattle.model.specs.Sizes.{control_limit}
use Rattle.model.specs.Layer.{is_shut, row_count}
use Rattle.model.proofs.TopRow.{top_says}
use Rattle.model.specs.Rule.{weighted_free}
use Rattle.rules.specs.Rules.{rule_of, worked_of}
use Rattle.layers.specs.Piles.{pile_of}
use Rattle.layers.specs.Shut.{changed_rows}
use Rattle.layers.proofs.OnTop.{on_top}
use Rattle.layers.proofs.RowSet.{spare_nonneg, spare_small, holds_so, set_to}
use Rattle.layers.specs.Rows.{rows_of, top_of}
use Rattle.layers.proofs.setting.Layer+P+Table+N.set_row.Goals as goal

pub overflow_cast-free : goal.overflow_cast-free
overflow_cast-free g c =
    let s = c.args.self.now in
    let p = pile_of g.P.Net.net g.P.Plant.tokens s in
    let w = worked_of c.in_ok-rule.rule in
    let checks = c.in_ok-rule.ensures in
    let sum = weighted_free (g.P.Net.net s.below) w.weight (g.P.Plant.tokens s.below) in
    let fits : SFits w32 c.spare-free.result = search rules in
    let spare = to_z-of_z w32 c.spare-free.result fits ∙ c.spare-free.ensures in
    let low : T (non_neg _) = subst (λ (z : ℤ). T (non_neg z)) (sym spare) (spare_nonneg w.bound sum (holds_so p c.args.r (rule_of c.args.typed.now) w checks.answer (checks.works w refl))) in
    (low, search rules)

pub set_rule-requires : goal.set_rule-requires
set_rule-requires g c =
    let s = c.args.self.now in
    let w = worked_of c.in_ok-rule.rule in
    let fits : SFits w32 c.spare-free.result = search rules in
    let spare = to_z-of_z w32 c.spare-free.result fits ∙ c.spare-free.ensures in
    let most = spare_small (g.P.Net.net s.below) (g.P.Plant.tokens s.below) w (g.met.P.Net.sound s.below) (g.met.P.Plant.within s.below) c.in_ok-rule.rule.small_weights c.in_ok-rule.rule.small_bound in
    let room = subst (λ (z : ℤ). nat_abs z ≤ control_limit) (sym spare) most in
    (omega arith, (c.requires, (room, c.raises-raises.ensures.small)))

pub returns-clause-set : goal.returns-clause-set
returns-clause-set g c =
    let s = c.args.self.now in
    let p = pile_of g.P.Net.net g.P.Plant.tokens s in
    let w = worked_of c.in_ok-rule.rule in
    let checks = c.in_ok-rule.ensures in
    let size = row_count (top_of g.row.N) in
    let clear : is_shut size p.below ≡ false = (top_says p c.args.r (rule_of c.args.typed.now) (sym checks.answer)).open_layer in
    let after = changed_rows size p.below (rows_of s.rows.rows) c.args.r _ (rows_of c.set_rule.new.self.rows) clear c.set_rule.ensures in
    let fits : SFits w32 c.spare-free.result = search rules in
    let spare = to_z-of_z w32 c.spare-free.result fits ∙ c.spare-free.ensures in
    λ _. set_to p c.args.r (rule_of c.args.typed.now) w checks.answer (checks.works w refl) (g.met.P.Net.sound s.below) c.requires c.raises-raises.result _ c.raises-raises.ensures.value (ap nat_abs spare) _ after

pub returns-in_err-rule-clause-on_top : goal.returns-in_err-rule-clause-on_top
returns-in_err-rule-clause-on_top g c =
    let s = c.args.self.now in
    on_top (row_count (top_of g.row.N)) (g.P.Net.net s.below) (rows_of s.rows.rows) (g.P.Plant.tokens s.below)

pub returns-clause-on_top : goal.returns-clause-on_top
returns-clause-on_top g c =
    let s = c.args.self.now in
    on_top (row_count (top_of g.row.N)) (g.P.Net.net s.below) (rows_of c.set_rule.new.self.rows) (g.P.Plant.tokens s.below)
