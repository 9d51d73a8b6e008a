-- What a machine bank is, said of any net. Machine i has the four places 4·i to 4·i + 3 in a ring, and from each of them a move to the next.
--   Machines     the net n is that of machines
use Rattle.std.specs.Prelude.{◌≡◌, ℕ, ◌+◌, ◌*◌, ◌%◌, ◌<◌, ◌≤◌, ◌≢◌}
use Rattle.model.specs.Net.{Net}

-- j is one of the four places of machine i, and the move out of it has the same number
pub record Machines (n : Net) : Type 0 where
  pub whole : n.places % 4 ≡ 0
  pub ground : n.ground_places ≡ n.places
  pub moves : n.moves ≡ n.places
  pub limits : (p : ℕ) → p < n.places → n.limit p ≡ 1
  pub takes : (i j : ℕ) → j < 4 → 4 * i + j < n.places → n.take (4 * i + j) (4 * i + j) ≡ 1
  pub gives : (i j : ℕ) → j < 4 → 4 * i + j < n.places → n.give (4 * i + (j + 1) % 4) (4 * i + j) ≡ 1
  -- a move takes from no other place and gives to no other, and one that is not there does neither
  pub takes_nowhere_else : (i j p : ℕ) → j < 4 → (p ≢ 4 * i + j) → n.take p (4 * i + j) ≡ 0
  pub gives_nowhere_else : (i j p : ℕ) → j < 4 → (p ≢ 4 * i + (j + 1) % 4) → n.give p (4 * i + j) ≡ 0
  pub no_move : (p t : ℕ) → n.moves ≤ t → (n.take p t ≡ 0) × (n.give p t ≡ 0)
