-- The cell that texts say, as they are read.
--   line_rule        the rule that a read line types
--   cell_read        the cell of the net n and the rules r, read from the bytes rs
--   cell_said        the cell of a net and rules that are said with their texts
use Rattle.std.specs.Prelude.{ℕ, pos, List, map, vec_items, slice_index_or}
use Rattle.model.specs.Rule.{Rule}
use Rattle.texts.specs.Spans.{part_of}
use Rattle.formats.specs.NetText.{NetText, place_names, move_names}
use Rattle.rules_text.specs.declared.rule.RuleLine.{RuleLine}
use Rattle.rules_text.specs.declared.rule.RulesText.{RulesText}
use Rattle.rules_text.specs.Rules.{no_rule}
use Rattle.panel.specs.declared.said.Said.{Said}
use Rattle.panel.specs.Cells.{Cell, plant_net, free_of}

abbrev pub line_rule : RuleLine → Rule
line_rule l = record { weight = λ p. slice_index_or l.weights p (pos 0); bound = l.bound }

abbrev pub cell_read : NetText → List ℕ → RulesText → Cell
cell_read n rs r = record {
  places = place_names n;
  moves = move_names n;
  fixed = part_of rs r.fixed.name;
  rules = map (λ (l : RuleLine). part_of rs l.name) (vec_items r.others);
  net = plant_net n;
  free = free_of n;
  typed_fixed = line_rule r.fixed;
  typed = λ i. line_rule (slice_index_or (vec_items r.others) i no_rule);
}

abbrev pub cell_said : Said → Cell
cell_said s = cell_read s.net.now s.rules.text.now s.rules.rules.now
