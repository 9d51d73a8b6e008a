-- The marked cases, computed on the model, and the worked example's pile, built.
use Rattle.std.proofs.Common.{ℕ, zero, suc, ◌≤◌, [], ◌∷◌, refl, lit≤}
use Rattle.model.specs.Net.{Ranges}
use Rattle.model.specs.Working.{rounds_from, unchanged}
use Rattle.model.specs.Layer.{bare, monitored, boarded, monitor_set}
use Rattle.model.specs.Cases.{AsMarked, marked_cases, numbered_cases, controllable_move, uncontrollable_move, example_net, example_free, zone, ExampleBuilt}
use Rattle.model.proofs.SmallNets.{small_ranges}

pub cases_hold : AsMarked marked_cases
unfolding rounds_from
cases_hold = (refl, (refl, (refl, (refl, (refl, (refl, (refl, (refl, (refl, (refl, (refl, (refl, (refl, tt)))))))))))))

pub numbers_hold : AsMarked numbered_cases
unfolding rounds_from
numbers_hold = (refl, (refl, (refl, (refl, (refl, (refl, (refl, (refl, (refl, (refl, (refl, (refl, (refl, tt)))))))))))))

example_ranges : Ranges example_net
example_ranges = small_ranges (5 ∷ 4 ∷ 9 ∷ []) (controllable_move (1 ∷ []) (0 ∷ 1 ∷ []) ∷ uncontrollable_move (0 ∷ 1 ∷ []) (0 ∷ 0 ∷ 1 ∷ []) ∷ controllable_move (0 ∷ 0 ∷ 1 ∷ []) (1 ∷ []) ∷ []) (lit≤ tt) (lit≤ tt) (lit≤ tt) (lit≤ tt) refl refl

within : (i : ℕ) → example_free i ≤ example_net.limit i
within zero = lit≤ tt
within (suc zero) = lit≤ tt
within (suc (suc zero)) = lit≤ tt
within (suc (suc (suc i))) = lit≤ tt

pub example_built : ExampleBuilt
unfolding rounds_from
example_built = boarded (monitor_set zone (unchanged zone) (monitored (bare example_net example_free example_ranges refl within)) refl refl refl)
