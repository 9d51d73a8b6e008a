-- What the orders of a cell are, by the names of its moves, its rules and its places.
--   asked x y w n    the order of two fields, the word w and the name n, of the cell of the net x and the rules y
--   move_name, rule_name, place_name   the name of the move t, of rule line r, of the ground place p, as their lines have it
--   NamesRead x y    a word and the name of a move, a rule or a place is the call of that move, the admission of that rule line at its row, the
--                    question for that place; the control places follow the ground places, the fixed rule's first; a name of none of these is no
--                    name of an order, and another word, or a line that has not two fields, is no order
use Rattle.std.specs.Prelude.{◌≡◌, ◌≢◌, ℕ, ◌+◌, ◌<◌, List, [], ◌∷◌, ◌++◌, map, length, codes, slice_index_or}
use Rattle.model.specs.Ledger.{grant, commit, cancel, report, admit}
use Rattle.formats.specs.Words.{Known}
use Rattle.formats.specs.NetText.{NetText, place_names, move_names}
use Rattle.formats.specs.RulesText.{RulesText, RuleLine, rule_names}
use Rattle.panel.specs.Cells.{cell_of, typed_of, no_place, no_move, no_rule}
use Rattle.panel.specs.Orders.{Order, order_of}
use Rattle.panel.specs.Orders.Order.{a_call, a_show, no_shape, no_name}

abbrev pub asked : NetText → RulesText → List ℕ → List ℕ → Order
asked x y w n = order_of (cell_of x y) (w ∷ n ∷ [])

abbrev pub move_name : NetText → ℕ → List ℕ
move_name x t = (slice_index_or x.moves t no_move).name

abbrev pub rule_name : RulesText → ℕ → List ℕ
rule_name y r = (slice_index_or y.others r no_rule).name

abbrev pub place_name : NetText → ℕ → List ℕ
place_name x p = (slice_index_or x.places p no_place).name

pub record NamesRead (x : NetText) (y : RulesText) : Type 0 where
  pub grants : (t : ℕ) → t < length x.moves → asked x y (codes "grant") (move_name x t) ≡ a_call (grant t)
  pub commits : (t : ℕ) → t < length x.moves → asked x y (codes "commit") (move_name x t) ≡ a_call (commit t)
  pub cancels : (t : ℕ) → t < length x.moves → asked x y (codes "cancel") (move_name x t) ≡ a_call (cancel t)
  pub reports : (t : ℕ) → t < length x.moves → asked x y (codes "report") (move_name x t) ≡ a_call (report t)
  pub admits : (r : ℕ) → r < length y.others → asked x y (codes "admit") (rule_name y r) ≡ a_call (admit r (typed_of (slice_index_or y.others r no_rule)))
  pub shows_place : (p : ℕ) → p < length x.places → asked x y (codes "show") (place_name x p) ≡ a_show p
  pub shows_fixed : asked x y (codes "show") y.fixed.name ≡ a_show (length x.places)
  pub shows_rule : (r : ℕ) → r < length y.others → asked x y (codes "show") (rule_name y r) ≡ a_show (length x.places + 1 + r)
  pub unknown_move : (n : List ℕ) → (Known (move_names x) n → ⊥)
      → (asked x y (codes "grant") n ≡ no_name) × (asked x y (codes "commit") n ≡ no_name) × (asked x y (codes "cancel") n ≡ no_name) × (asked x y (codes "report") n ≡ no_name)
  pub unknown_rule : (n : List ℕ) → (Known (map (λ (r : RuleLine). r.name) y.others) n → ⊥) → asked x y (codes "admit") n ≡ no_name
  pub unknown_place : (n : List ℕ) → (Known (place_names x ++ rule_names y) n → ⊥) → asked x y (codes "show") n ≡ no_name
  pub unknown_word : (w n : List ℕ) → (w ≢ codes "grant") → (w ≢ codes "commit") → (w ≢ codes "cancel") → (w ≢ codes "report") → (w ≢ codes "admit") → (w ≢ codes "show") → asked x y w n ≡ no_shape
  pub other_shape : (fs : List (List ℕ)) → (length fs ≡ 2 → ⊥) → order_of (cell_of x y) fs ≡ no_shape
