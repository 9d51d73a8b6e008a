-- A cell by value: what its net text and its rules text say that a run depends on.
--   no_place, no_move, no_rule    what is read past the end of the places, moves and rules
--   limit_of, free_of, letter_of   of the net x: the limit of the place p, its tokens at the start, and whether the move t is controllable
--   arcs_say f x     what the arcs of x say of a place and a move, by one number f of an arc; 0 where there is no arc
--   arc_takes, arc_gives what the arcs of x say that the move t takes from the place p, and gives to it; 0 where there is no arc
--   net_by           the net of a plant of a kind
--   plant_net        the net of the plant that x tells of, by its kind
--   typed_of q       the rule that a line of the rules text types
--   Cell             names, net, tokens at the start, and rules as typed: the fixed one, and the one of each rule line
--   pile_names       the names of all places of the cell's pile: the ground places, then the fixed rule's place, then those of the rules
--   cell_of          the cell of a net text and a rules text
use Rattle.std.specs.Prelude.{ℕ, pos, Bool, false, cond, ◌&&◌, List, [], ◌∷◌, ◌++◌, map, length, fold, ◌==◌, slice_index_or}
use Rattle.model.specs.Net as model
use Rattle.model.specs.Rule.{Rule}
use Rattle.formats.specs.declared.kind.Kind.{Kind}
use Rattle.formats.specs.declared.kind.Kind.TheVariants.{Net, Bank, Line}
use Rattle.formats.specs.NetText.{Place, Move, Arc, NetText, place_names, move_names}
use Rattle.formats.specs.Sums.{weight}
use Rattle.formats.specs.RulesText.{RuleLine, RulesText}
use Rattle.table.specs.Tables.{table_net}
use Rattle.bank.specs.Banks.{bank_net}
use Rattle.line.specs.Lines.{line_net}

abbrev pub no_place : Place
no_place = record { name = []; tokens = 0; limit = 0 }

abbrev pub no_move : Move
no_move = record { name = []; controllable = false }

abbrev pub no_rule : RuleLine
no_rule = record { name = []; sum = []; bound = pos 0 }

abbrev pub limit_of : NetText → ℕ → ℕ
limit_of x p = (slice_index_or x.places p no_place).limit

abbrev pub free_of : NetText → ℕ → ℕ
free_of x p = (slice_index_or x.places p no_place).tokens

abbrev pub letter_of : NetText → ℕ → Bool
letter_of x t = (slice_index_or x.moves t no_move).controllable

-- by one number of an arc; a net that is right has one arc for a place and a move, or none
abbrev pub arcs_say : (Arc → ℕ) → NetText → ℕ → ℕ → ℕ
arcs_say number x p t = fold (λ v (a : Arc). cond (a.place == p && a.move == t) (number a) v) 0 x.arcs

abbrev pub arc_takes : NetText → ℕ → ℕ → ℕ
arc_takes x = arcs_say (λ (a : Arc). a.take) x

abbrev pub arc_gives : NetText → ℕ → ℕ → ℕ
arc_gives x = arcs_say (λ (a : Arc). a.give) x

abbrev pub net_by : Kind → NetText → model.Net
net_by Net x = table_net (length x.places) (length x.moves) (letter_of x) (arc_takes x) (arc_gives x) (limit_of x)
net_by Bank x = bank_net (length x.places) (letter_of x)
net_by Line x = line_net (length x.places) (limit_of x) (letter_of x)

abbrev pub plant_net : NetText → model.Net
plant_net x = net_by x.kind x

abbrev pub typed_of : RuleLine → Rule
typed_of q = record { weight = weight q.sum; bound = q.bound }

pub record Cell : Type 0 where
  pub places : List (List ℕ)
  pub moves : List (List ℕ)
  pub fixed : List ℕ
  pub rules : List (List ℕ)
  pub net : model.Net
  pub free : ℕ → ℕ
  pub typed_fixed : Rule
  pub typed : ℕ → Rule

abbrev pub pile_names : Cell → List (List ℕ)
pile_names c = c.places ++ (c.fixed ∷ c.rules)

abbrev pub cell_of : NetText → RulesText → Cell
cell_of x y = record {
  places = place_names x;
  moves = move_names x;
  fixed = y.fixed.name;
  rules = map (λ (r : RuleLine). r.name) y.others;
  net = plant_net x;
  free = free_of x;
  typed_fixed = typed_of y.fixed;
  typed = λ r. typed_of (slice_index_or y.others r no_rule);
}
