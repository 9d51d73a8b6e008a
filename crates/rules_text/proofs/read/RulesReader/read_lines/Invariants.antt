use Rattle.std.proofs.Common.{◌≡◌, ◌+◌, length, drop, Some, vec_items}
use Rattle.formats.specs.NetText.{names, place_names}
use Rattle.formats.specs.RulesText as said
use Rattle.formats.specs.RulesText.{rules_reader}
use Rattle.texts.specs.Walking.{numbered_lines, read_on, lines_left}
use Rattle.texts.proofs.Walking.{Comes}
use Rattle.rules_text.specs.Rules.{RulesSay}
use Rattle.rules_text.specs.Reading.{Located}
use Rattle.rules_text.proofs.read.RulesReader.read_lines.Given as goal

abbrev pub invariant-loop-at : goal.invariant-loop-at
invariant-loop-at l =
    let reader = rules_reader (names l.self.net.now) (place_names l.self.net.now) in
    let bs = l.self.text.now in
    record {
      comes : (x : said.RulesText) → RulesSay bs l.initial.rules x
          → (y : said.RulesText) × RulesSay bs l.rules y × Comes reader y (length bs) (lines_left l.at-iterator) (read_on reader (Some x) (length bs) (lines_left l.initial.lines));
      left : lines_left l.at-iterator ≡ drop (length (vec_items l.rules.others) + 1) (numbered_lines bs);
      located : Located bs l.rules;
    }
