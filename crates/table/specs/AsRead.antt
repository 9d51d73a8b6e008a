-- What a net table is, said of any net: it has the places, the moves and the arcs of a net text, as read.
--   no_arc       what is read past the end of the arcs
--   arc_at       the arc i of the text, in the text's order
--   Between      the arc is one between the place p and the move t
--   Last         no arc after arc i is one between the same place and move
--   AsRead       the net n is that of the text x
use Rattle.std.specs.Prelude.{◌≡◌, ℕ, ◌<◌, ◌≤◌, length, vec_items, slice_index_or}
use Rattle.model.specs.Net.{Net}
use Rattle.net_text.specs.declared.net.Arc.{Arc}
use Rattle.net_text.specs.declared.net.NetText.{NetText}
use Rattle.net_text.specs.Nets.{limit_at, letter_at}

abbrev pub no_arc : Arc
no_arc = record { place = 0; transition = 0; take = 0; give = 0 }

abbrev pub arc_at : NetText → ℕ → Arc
arc_at x i = slice_index_or (vec_items x.arcs) i no_arc

abbrev pub Between : ℕ → ℕ → Arc → Type 0
Between p t a = (a.place ≡ p) × (a.transition ≡ t)

abbrev pub Last : NetText → ℕ → Type 0
Last x i = (j : ℕ) → i < j → j < length (vec_items x.arcs) → Between (arc_at x i).place (arc_at x i).transition (arc_at x j) → ⊥

pub record AsRead (x : NetText) (n : Net) : Type 0 where
  pub places : n.places ≡ length (vec_items x.places)
  pub ground : n.ground_places ≡ n.places
  pub moves : n.moves ≡ length (vec_items x.moves)
  -- the limit of each place and the letter of each move are those of its record
  pub limits : (p : ℕ) → p < n.places → n.limit p ≡ limit_at (vec_items x.places) p
  pub letters : (t : ℕ) → t < n.moves → n.controllable t ≡ letter_at (vec_items x.moves) t
  -- an arc that no later one repeats is in the net, at its place and its move, which the net has
  pub arcs_join : (i : ℕ) → i < length (vec_items x.arcs) → ((arc_at x i).place < n.places) × ((arc_at x i).transition < n.moves)
  pub takes : (i : ℕ) → i < length (vec_items x.arcs) → Last x i → n.take (arc_at x i).place (arc_at x i).transition ≡ (arc_at x i).take
  pub gives : (i : ℕ) → i < length (vec_items x.arcs) → Last x i → n.give (arc_at x i).place (arc_at x i).transition ≡ (arc_at x i).give
  -- a place and a move that no arc joins take and give nothing, and so does what is not there
  pub nothing_else : (p t : ℕ) → ((i : ℕ) → i < length (vec_items x.arcs) → Between p t (arc_at x i) → ⊥) → (n.take p t ≡ 0) × (n.give p t ≡ 0)
  pub no_place : (p t : ℕ) → n.places ≤ p → (n.take p t ≡ 0) × (n.give p t ≡ 0)
  pub no_move : (p t : ℕ) → n.moves ≤ t → (n.take p t ≡ 0) × (n.give p t ≡ 0)
