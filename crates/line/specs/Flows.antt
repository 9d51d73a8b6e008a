-- What a buffer line is, said of any net. Move 0 brings one to the first place, each move after it passes one on to the next place, the last takes it out.
--   Flows        the net n is that of a line
use Rattle.std.specs.Prelude.{◌≡◌, ℕ, ◌+◌, ◌-◌, ◌<◌, ◌≤◌, ◌≢◌}
use Rattle.model.specs.Net.{Net}

pub record Flows (n : Net) : Type 0 where
  pub some : 1 ≤ n.places
  pub ground : n.ground_places ≡ n.places
  pub moves : n.moves ≡ n.places + 1
  -- move 0 gives to the first place and takes nothing
  pub brings : n.give 0 0 ≡ 1
  pub takes_none : (p : ℕ) → n.take p 0 ≡ 0
  -- a move between takes from the place before it and gives to its own
  pub passes : (i : ℕ) → 1 ≤ i → i < n.places → (n.take (i - 1) i ≡ 1) × (n.give i i ≡ 1)
  -- the last move takes from the last place and gives nothing
  pub removes : n.take (n.places - 1) n.places ≡ 1
  pub gives_none : (p : ℕ) → n.give p n.places ≡ 0
  -- a move takes from no other place and gives to no other, and one that is not there does neither
  pub takes_nowhere_else : (i p : ℕ) → 1 ≤ i → (p ≢ i - 1) → n.take p i ≡ 0
  pub gives_nowhere_else : (i p : ℕ) → (p ≢ i) → n.give p i ≡ 0
  pub no_move : (p t : ℕ) → n.moves ≤ t → (n.take p t ≡ 0) × (n.give p t ≡ 0)
