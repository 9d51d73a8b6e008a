use Rattle.std.proofs.Common.{◌≡◌, ℕ, ◌+◌, ◌≤◌, ◌∷◌, length, Some, None, sym, ◌∙◌, subst, arith}
use Rattle.std.proofs.lemmas.Bool.{leb-true}
use Rattle.std.proofs.lemmas.Result.{err_from_is_err_and}
use Rattle.formats.specs.NetText.{names, place_names}
use Rattle.formats.specs.Words.{fields}
use Rattle.formats.specs.RulesText.{rule_shape, after_rule, rules_reader, read_rules}
use Rattle.texts.specs.Walking.{numbered_lines, read_on, lines_left}
use Rattle.texts.proofs.Walking.{some_line}
use Rattle.texts.proofs.Whole.{text_refused, text_passed}
use Rattle.rules_text.specs.declared.rule.RulesText.{RulesText}
use Rattle.rules_text.specs.Rules.{RulesSay}
use Rattle.rules_text.proofs.Parts.{passed}
use Rattle.rules_text.proofs.Whole.{opened_says, first_refused, first_passed, first_stands, first_fits, first_left, first_located, accepts, refuses, lines_refused}
use Rattle.rules_text.proofs.reader.read_rules.Goals as goal
use Rattle.rules_text.proofs.reader.read_rules.Goals.{In_ok-check, In-Some, After-new}

-- the net is not too large
few : (c : In_ok-check) → length c.args.net.now.places ≤ 32
few c = subst (λ (n : ℕ). n ≤ 32) c.place_count.ensures.value (leb-true c.place_count.result 32 (passed _ _ _ _ _ _ c.in_ok-check.ensures))

pub returns-in_err-check_text : goal.returns-in_err-check_text
returns-in_err-check_text c =
    let p = err_from_is_err_and c.from_residual-in_err-check_text.result c.from_residual-in_err-check_text.ensures.1 in
    let net = c.args.net.now in
    rw (p.1, p.2) (refuses net c.args.text.now (few (goal.at.returns-in_err-check_text c).In_ok-check) _ (text_refused (rules_reader (names net) (place_names net)) c.args.text.now _ c.in_err-check_text.ensures))

-- the first line
starts : (c : In-Some) → numbered_lines c.args.text.now ≡ (c.in-Some.at, c.in-Some.first.now) ∷ lines_left c.next.new.self
starts c = sym c.new-lines.ensures ∙ c.in-Some.ensures.steps

-- a text that passed has a line
pub unreachable-requires : goal.unreachable-requires
unreachable-requires c =
    let t = text_passed (rules_reader (names c.args.net.now) (place_names c.args.net.now)) c.args.text.now c.in_ok-check_text.ensures in
    some_line c.args.text.now t.0.0 t.0.2 (sym c.new-lines.ensures ∙ c.in_default.ensures.steps.0)

pub read_fixed-requires : goal.read_fixed-requires
read_fixed-requires c =
    let net = c.args.net.now in
    let t = text_passed (rules_reader (names net) (place_names net)) c.args.text.now c.in_ok-check_text.ensures in
    let l = first_fits (names net) (place_names net) c.args.text.now t.0.2 c.in-Some.at c.in-Some.first.now (lines_left c.next.new.self) (starts (goal.at.read_fixed-requires c).In-Some) in
    record { line_bound = omega (arith, l, t.0.1) }

pub returns-in_err-fixed : goal.returns-in_err-fixed
returns-in_err-fixed c =
    let p = err_from_is_err_and c.from_residual-in_err-fixed.result c.from_residual-in_err-fixed.ensures.1 in
    let net = c.args.net.now in
    let few_places = few (goal.at.returns-in_err-fixed c).In_ok-check in
    let t = text_passed (rules_reader (names net) (place_names net)) c.args.text.now c.in_ok-check_text.ensures in
    rw (p.1, p.2)
    (refuses net c.args.text.now few_places _
    (t.1 ∙ first_refused (names net) (place_names net) c.args.text.now t.0.2 c.in-Some.at c.in-Some.first.now (lines_left c.next.new.self) (starts (goal.at.returns-in_err-fixed c).In-Some) _ c.in_err-fixed.ensures))

-- the rules of which only the fixed one is read
abbrev begun : (c : After-new) → RulesText
begun c = record { fixed = c.in_ok-fixed.fixed; others = c.new.result }

says : (c : After-new) → RulesSay c.args.text.now (begun c) (after_rule (place_names c.args.net.now) None (rule_shape (fields c.in-Some.first.now))) × (c.in_ok-fixed.fixed.name.start ≡ c.in-Some.at.byte + 6)
says c =
    let net = c.args.net.now in
    let t = text_passed (rules_reader (names net) (place_names net)) c.args.text.now c.in_ok-check_text.ensures in
    let stands = first_stands (names net) (place_names net) c.args.text.now t.0.2 c.in-Some.at c.in-Some.first.now (lines_left c.next.new.self) (sym c.new-lines.ensures ∙ c.in-Some.ensures.steps) in
    opened_says c.args.text.now (place_names net) c.in-Some.at.byte _ c.in_ok-fixed.fixed c.new.result c.new.ensures.items stands c.in_ok-fixed.ensures.1

-- the text comes to what its lines after the first come to
comes : (c : After-new) → read_rules (names c.args.net.now) (place_names c.args.net.now) c.args.text.now ≡ read_on (rules_reader (names c.args.net.now) (place_names c.args.net.now)) (Some (after_rule (place_names c.args.net.now) None (rule_shape (fields c.in-Some.first.now)))) (length c.args.text.now) (lines_left c.next.new.self)
comes c =
    let net = c.args.net.now in
    let t = text_passed (rules_reader (names net) (place_names net)) c.args.text.now c.in_ok-check_text.ensures in
    t.1 ∙ first_passed (names net) (place_names net) c.args.text.now t.0.2 c.in-Some.at c.in-Some.first.now (lines_left c.next.new.self) (sym c.new-lines.ensures ∙ c.in-Some.ensures.steps) c.in_ok-fixed.ensures.0

pub read_lines-requires-clause-to_come : goal.read_lines-requires-clause-to_come
read_lines-requires-clause-to_come c =
    let net = c.args.net.now in
    let t = text_passed (rules_reader (names net) (place_names net)) c.args.text.now c.in_ok-check_text.ensures in
    first_left (names net) (place_names net) c.args.text.now t.0.2 c.in-Some.at c.in-Some.first.now (lines_left c.next.new.self) (sym c.new-lines.ensures ∙ c.in-Some.ensures.steps)
    (record { fixed = c.in_ok-fixed.fixed; others = c.new.result }) c.new.ensures.items

pub read_lines-requires-clause-located : goal.read_lines-requires-clause-located
read_lines-requires-clause-located c =
    let net = c.args.net.now in
    let t = text_passed (rules_reader (names net) (place_names net)) c.args.text.now c.in_ok-check_text.ensures in
    first_located (names net) (place_names net) c.args.text.now t.0.2 c.in-Some.at c.in-Some.first.now (lines_left c.next.new.self) (sym c.new-lines.ensures ∙ c.in-Some.ensures.steps)
    (record { fixed = c.in_ok-fixed.fixed; others = c.new.result }) c.new.ensures.items (says (goal.at.read_lines-requires-clause-located c).After-new).1

pub returns-in_err-read_lines : goal.returns-in_err-read_lines
returns-in_err-read_lines c =
    let p = err_from_is_err_and c.from_residual-in_err-read_lines.result c.from_residual-in_err-read_lines.ensures.1 in
    let net = c.args.net.now in
    let few_places = few (goal.at.returns-in_err-read_lines c).In_ok-check in
    let new = (goal.at.returns-in_err-read_lines c).After-new in
    rw (p.1, p.2) (lines_refused net c.args.text.now few_places _ _ _ (comes new) (c.in_err-read_lines.ensures.answer _ (says new).0))

pub returns : goal.returns
returns c =
    let net = c.args.net.now in
    let few_places = few (goal.at.returns c).In_ok-check in
    let new = (goal.at.returns c).After-new in
    let a = c.in_ok-read_lines.ensures.answer _ (says new).0 in
    accepts net c.args.text.now few_places _ a.0 (comes new ∙ a.1) a.2 c.in_ok-read_lines.ensures.located
