-- What a layer adds to the net below, told by the two nets alone.
--   OnTop            the net above, with its tokens, is the net below with its tokens, and so many rows more where there is room: the
--                    same ground places and moves, every place below as it was, and the places of the rows after them
use Rattle.std.specs.Prelude.{◌≡◌, ℕ, ◌+◌, ◌<◌, ◌≤◌}
use Rattle.model.specs.Net.{Net}
use Rattle.model.specs.Sizes.{most_all_places, control_limit}
use Rattle.model.specs.Layer.{next_layer}

pub record OnTop (rows : ℕ) (below above : Net) (free_below free_above : ℕ → ℕ) : Type 0 where
  pub same_ground : above.ground_places ≡ below.ground_places
  pub same_moves : above.moves ≡ below.moves
  pub same_controllable : (t : ℕ) → above.controllable t ≡ below.controllable t
  -- how many places there are, with room for the rows and without
  pub room : below.places + rows ≤ most_all_places → above.places ≡ below.places + rows
  pub no_room : most_all_places < below.places + rows → above.places ≡ below.places
  -- every place below is as it was
  pub same_take : (p t : ℕ) → p < below.places → above.take p t ≡ below.take p t
  pub same_give : (p t : ℕ) → p < below.places → above.give p t ≡ below.give p t
  pub same_limit : (p : ℕ) → p < below.places → above.limit p ≡ below.limit p
  pub same_layer : (p : ℕ) → p < below.places → above.layer p ≡ below.layer p
  pub same_row : (p : ℕ) → p < below.places → above.row p ≡ below.row p
  pub same_free : (p : ℕ) → p < below.places → free_above p ≡ free_below p
  -- the places of the rows come after them
  pub own_limit : (r : ℕ) → below.places + rows ≤ most_all_places → r < rows → above.limit (below.places + r) ≡ control_limit
  pub own_layer : (r : ℕ) → below.places + rows ≤ most_all_places → r < rows → above.layer (below.places + r) ≡ next_layer below.places below.layer
  pub own_row : (r : ℕ) → below.places + rows ≤ most_all_places → r < rows → above.row (below.places + r) ≡ r
