use Rattle.std.proofs.Common.{ℕ, ◌+◌, Bool, true, length, drop, Some, vec_items, sym, ap, subst, ◌∙◌, arith}
use Rattle.formats.specs.NetText.{names, place_names}
use Rattle.formats.specs.RulesText as said
use Rattle.formats.specs.RulesText.{RuleShape, rule_shape, checks_of, after_rule, rules_reader}
use Rattle.formats.specs.RulesText.RuleShape.{neither}
use Rattle.texts.specs.Lines.{rule_shape_of}
use Rattle.texts.specs.Walking.{numbered_lines, lines_left}
use Rattle.texts.proofs.Walking.{LineStands, stands, line_passed}
use Rattle.rules_text.specs.Reading.{Stands}
use Rattle.rules_text.proofs.Standing.{line_stands}
use Rattle.rules_text.proofs.read.RulesReader.read_lines.Goals as goal
use Rattle.rules_text.proofs.read.RulesReader.read_lines.Goals.{In-Some}

abbrev all_whole : said.RulesText → Bool
all_whole x = true

-- the line that was taken stands in the text
here : (c : In-Some) → LineStands c.args.self.now.text.now (length (vec_items c.loop-at.rules.others) + 1) c.in-Some.at c.in-Some.line.now (lines_left c.next.new.self)
here c =
    stands c.args.self.now.text.now (length (vec_items c.loop-at.rules.others) + 1) c.in-Some.at c.in-Some.line.now (lines_left c.next.new.self) c.args.self.now.ended
    (sym c.loop-at.invariant.left ∙ c.in-Some.ensures.steps)

pub add_record-requires : goal.add_record-requires
add_record-requires c =
    let h = here (goal.at.add_record-requires c).In-Some in
    record { stands = subst (λ (l : RuleShape). Stands c.args.self.now.text.now c.in-Some.at.byte l) c.in_ok-read.ensures.1 (line_stands c.args.self.now.text.now c.in-Some.at.byte c.in-Some.line.now h.more h.there) }

pub loop-at-preserved : goal.loop-at-preserved
loop-at-preserved c =
    let net = c.args.self.now.net.now in
    let h = here (goal.at.loop-at-preserved c).In-Some in
    let grown = c.in_ok-add_record.ensures.located c.loop-at.invariant.located h.start in
    record {
      comes = λ x says.
          let g = c.loop-at.invariant.comes x says in
          let step = c.in_ok-add_record.ensures.step g.0 g.1 in (
            after_rule (place_names net) (Some g.0) (rule_shape_of c.in_ok-read.read),
            step.1,
            line_passed rule_shape (checks_of (names net) (place_names net)) (after_rule (place_names net)) all_whole g.2 c.in-Some.ensures.steps (rule_shape_of c.in_ok-read.read) c.in_ok-read.ensures.1 _ step.0,
          );
      left = h.next ∙ ap (λ (i : ℕ). drop i (numbered_lines c.args.self.now.text.now)) (omega (arith, grown.1));
      located = grown.0;
    }
