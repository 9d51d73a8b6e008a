use Rattle.std.proofs.Common.{◌≡◌, true, sym, ◌∙◌, SFits, w32, refl, rules}
use Rattle.std.proofs.lemmas.Int.{to_z-of_z}
use Rattle.std.proofs.lemmas.Result.{err_from_is_err_and}
use Rattle.formats.specs.Words.{is_name}
use Rattle.formats.specs.NetText.{place_names}
use Rattle.rules_text.proofs.Parts.{passed}
use Rattle.rules_text.proofs.RuleLines.{sum_refused, bound_refused, line_fine}
use Rattle.rules_text.proofs.read.RulesReader.read_rule.Goals as goal
use Rattle.rules_text.proofs.read.RulesReader.read_rule.Goals.{In_ok-check-2}

-- the name is one, and is new
named : (c : In_ok-check-2) → is_name c.args.fields.now.name.now ≡ true
named c = sym c.is_name.ensures ∙ passed _ _ _ _ _ _ c.in_ok-check.ensures

new : (c : In_ok-check-2) → c.args.new ≡ true
new c = passed _ _ _ _ _ _ c.in_ok-check-2.ensures

pub returns-in_err-weights : goal.returns-in_err-weights
returns-in_err-weights c = λ used e.
    let p = err_from_is_err_and c.from_residual-in_err-weights.result c.from_residual-in_err-weights.ensures.1 in
    let ps = place_names c.args.self.now.net.now in
    let after = (goal.at.returns-in_err-weights c).In_ok-check-2 in
    rw (p.1, p.2)
    (sum_refused used ps c.args.fields.now.byte c.args.fields.now.at.line c.args.fields.now.name.now c.args.fields.now.sum.now c.args.fields.now.bound.now (named after) (sym e ∙ new after) _ c.in_err-weights.ensures)

pub returns-in_err-bound : goal.returns-in_err-bound
returns-in_err-bound c = λ used e.
    let p = err_from_is_err_and c.from_residual-in_err-bound.result c.from_residual-in_err-bound.ensures.1 in
    let ps = place_names c.args.self.now.net.now in
    let after = (goal.at.returns-in_err-bound c).In_ok-check-2 in
    rw (p.1, p.2)
    (bound_refused used ps c.args.fields.now.byte c.args.fields.now.at.line c.args.fields.now.name.now c.args.fields.now.sum.now c.args.fields.now.bound.now (named after) (sym e ∙ new after) c.in_ok-weights.ensures.0 _ c.in_err-bound.ensures)

pub returns : goal.returns
returns c = λ used e.
    let ps = place_names c.args.self.now.net.now in
    let after = (goal.at.returns c).In_ok-check-2 in
    let line = line_fine used ps c.args.fields.now.byte c.args.fields.now.at.line c.args.fields.now.name.now c.args.fields.now.sum.now c.args.fields.now.bound.now (named after) (sym e ∙ new after) c.in_ok-weights.ensures.0 c.in_ok-bound.bound c.in_ok-bound.ensures in
    let fits : SFits w32 c.in_ok-bound.bound = search rules in
    (line.0, (refl, c.in_ok-weights.ensures.1, to_z-of_z w32 c.in_ok-bound.bound fits ∙ line.1))
