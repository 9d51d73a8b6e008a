-- The open grants of a ledger, as the code counts them.
--   opened       open(t), the open grants of each move, from the table of counts
--   Tallied      the counts and sums belong together over the net: how many grants are open in all, what they may yet bring to each
--                place, and that each open grant is of a move that is there and controllable
use Rattle.std.specs.Prelude.{◌≡◌, ℕ, ◌<◌, ◌≤◌, true, List, slice_index}
use Rattle.model.specs.Sizes.{most_open}
use Rattle.model.specs.Net.{Net}
use Rattle.model.specs.Ledger.{open_count, reserved}
use Rattle.ledger.specs.declared.grants.Grants.{Grants}

abbrev pub opened : List ℕ → ℕ → ℕ
opened counts t = slice_index counts t

pub record Tallied (n : Net) (g : Grants) : Type 0 where
  pub total_is : g.total ≡ open_count n (opened g.counts)
  pub few : g.total ≤ most_open
  pub reserved_is : (p : ℕ) → p < n.places → slice_index g.reserved p ≡ reserved n (opened g.counts) p
  -- no grant is open of a missing move, or of an uncontrollable one
  pub granted : (t : ℕ) → 0 < opened g.counts t → (t < n.moves) × (n.controllable t ≡ true)
