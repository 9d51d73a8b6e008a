-- The reading part of a net, by value: what its numbers are, and the ranges that they keep.
--   Net          a net: its ground places are 0 to ground_places − 1, its control places ground_places to places − 1, its moves 0 to
--                moves − 1
--   sum          f 0 + .. + f (k − 1)
--   signed_sum   the same of signed numbers
--   incidence    D(p,t): what the move t gives to the place p, less what it takes
--   Ranges       the ranges that every net keeps; the numbers of a missing place or move are 0
use Rattle.std.specs.Prelude.{◌≡◌, ℕ, zero, suc, ◌+◌, ◌<◌, ◌≤◌, Bool, false, ℤ, pos, ◌+ℤ◌, ◌-ℤ◌}
use Rattle.model.specs.Sizes.{most_places, most_all_places, most_moves, most_arc, most_limit, most_control_arc, control_limit}

pub record Net : Type 0 where
  -- the count of ground places, of all places and of moves
  pub ground_places : ℕ
  pub places : ℕ
  pub moves : ℕ
  -- whether a move waits to be granted, or happens of itself
  pub controllable : ℕ → Bool
  -- at a place and a move: the tokens taken when it begins, and given when it finishes
  pub take : ℕ → ℕ → ℕ
  pub give : ℕ → ℕ → ℕ
  -- at a place: the most tokens that it holds, and where it stands, both 0 on ground places
  pub limit : ℕ → ℕ
  pub layer : ℕ → ℕ
  pub row : ℕ → ℕ

abbrev pub sum : ℕ → (ℕ → ℕ) → ℕ
sum zero f = 0
sum (suc k) f = sum k f + f k

abbrev pub signed_sum : ℕ → (ℕ → ℤ) → ℤ
signed_sum zero f = pos 0
signed_sum (suc k) f = signed_sum k f +ℤ f k

abbrev pub incidence : Net → ℕ → ℕ → ℤ
incidence n p t = pos (n.give p t) -ℤ pos (n.take p t)

pub record Ranges (n : Net) : Type 0 where
  pub ground_some : 1 ≤ n.ground_places
  pub ground_few : n.ground_places ≤ most_places
  pub places_all : n.ground_places ≤ n.places
  pub places_few : n.places ≤ most_all_places
  pub moves_some : 1 ≤ n.moves
  pub moves_few : n.moves ≤ most_moves
  pub ground_arcs : (p t : ℕ) → p < n.ground_places → (n.take p t ≤ most_arc) × (n.give p t ≤ most_arc)
  pub ground_limit : (p : ℕ) → p < n.ground_places → (1 ≤ n.limit p) × (n.limit p ≤ most_limit)
  pub ground_plain : (p : ℕ) → p < n.ground_places → (n.layer p ≡ 0) × (n.row p ≡ 0)
  pub control_arcs : (p t : ℕ) → n.ground_places ≤ p → (n.take p t ≤ most_control_arc) × (n.give p t ≤ most_control_arc)
  pub control_limited : (p : ℕ) → n.ground_places ≤ p → p < n.places → n.limit p ≡ control_limit
  -- no control place holds an uncontrollable move back
  pub control_free : (p t : ℕ) → n.ground_places ≤ p → n.controllable t ≡ false → n.take p t ≡ 0
  pub no_place : (p t : ℕ) → n.places ≤ p →
      (n.take p t ≡ 0) × (n.give p t ≡ 0) × (n.limit p ≡ 0) × (n.layer p ≡ 0) × (n.row p ≡ 0)
  pub no_move : (p t : ℕ) → n.moves ≤ t → (n.take p t ≡ 0) × (n.give p t ≡ 0) × (n.controllable t ≡ false)
