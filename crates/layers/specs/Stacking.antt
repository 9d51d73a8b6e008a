-- A board over a fixed monitor over a plant.
--   Stacked          p is the pile of a new board over a monitor that was set to the typed rule, over the net n with its tokens; over
--                    a plant without control places it is one of the piles that can be built, with that rule in force
use Rattle.std.specs.Prelude.{◌≡◌, ℕ, [], ◌∷◌, Ok}
use Rattle.model.specs.Net.{Net}
use Rattle.model.specs.Rule.{Rule, Worked}
use Rattle.model.specs.Working.{work}
use Rattle.model.specs.Layer.{Pile, monitor, board, plant_alone, with_layer, with_rule, in_force, Built}

pub record Stacked (n : Net) (free : ℕ → ℕ) (typed : Rule) (p : Pile) : Type 0 where
  pub worked : Worked
  pub works : work n typed ≡ Ok worked
  pub pile : p ≡ with_layer board (with_rule (with_layer monitor (plant_alone n free)) 0 worked)
  pub built : n.places ≡ n.ground_places → Built p (in_force (with_layer monitor (plant_alone n free)) 0 typed worked ∷ [])
