-- The model's pile of a layer over a plant.
--   net_with, tokens_with    the net of a layer and the tokens at its places, by what tells of the net and the tokens below
--   rows_if_open     the rows of a layer over the net, which count as blank while the layer is shut
--   pile_of          the pile that a layer is, by what tells of the net and the tokens below
--   monitor_pile, board_pile   the pile of a fixed monitor, and of a board, over plants that are told of so
--   stack_pile       the pile of a board over a fixed monitor
--   new_pile         the pile of a new layer over a net and its tokens: its rows are blank
--   Fresh            what the pile p of a new layer is: its rows have their numbers, no arcs and no tokens, and the number of
--                    the layer is the lowest above all layers below
use Rattle.std.specs.Prelude.{◌≡◌, ℕ, ◌<◌, ◌≤◌, false, cond}
use Rattle.model.specs.Net.{Net}
use Rattle.model.specs.Sizes.{monitor_rows, board_rows}
use Rattle.model.specs.Layer.{Row, blank, Top, Pile, is_shut, row_count, next_layer, layer_net, layer_free, pile_net, pile_free}
use Rattle.model.specs.Laws.{FreshRow}
use Rattle.layers.specs.declared.table.Table.{Table}
use Rattle.layers.specs.declared.layer.Layer.{Layer}
use Rattle.layers.specs.Rows.{rows_of, top_of}

abbrev pub net_with : {P : Type 0} {n : ℕ} → (P → Net) → Layer P (Table n) → Net
net_with {P} {n} net s = layer_net (row_count (top_of n)) (net s.below) (rows_of s.rows.rows)

abbrev pub tokens_with : {P : Type 0} {n : ℕ} → (P → Net) → (P → ℕ → ℕ) → Layer P (Table n) → ℕ → ℕ
tokens_with {P} {n} net tokens s = layer_free (row_count (top_of n)) (net s.below) (tokens s.below) (rows_of s.rows.rows)

abbrev pub rows_if_open : ℕ → Net → (ℕ → Row) → ℕ → Row
rows_if_open size n rows = cond (is_shut size n) (λ r. blank) rows

abbrev pub pile_of : {P : Type 0} {n : ℕ} → (P → Net) → (P → ℕ → ℕ) → Layer P (Table n) → Pile
pile_of {P} {n} net tokens s = record {
  top = top_of n;
  below = net s.below;
  below_free = tokens s.below;
  rows = rows_if_open (row_count (top_of n)) (net s.below) (rows_of s.rows.rows);
}

abbrev pub monitor_pile : {P : Type 0} → (P → Net) → (P → ℕ → ℕ) → Layer P (Table monitor_rows) → Pile
monitor_pile net tokens s = pile_of net tokens s

abbrev pub board_pile : {P : Type 0} → (P → Net) → (P → ℕ → ℕ) → Layer P (Table board_rows) → Pile
board_pile net tokens s = pile_of net tokens s

abbrev pub stack_pile : {P : Type 0} → (P → Net) → (P → ℕ → ℕ) → Layer (Layer P (Table monitor_rows)) (Table board_rows) → Pile
stack_pile net tokens s = board_pile (net_with net) (tokens_with net tokens) s

abbrev pub new_pile : Top → Net → (ℕ → ℕ) → Pile
new_pile top n free = record { top = top; below = n; below_free = free; rows = λ r. blank }

pub record Fresh (top : Top) (n : Net) (free : ℕ → ℕ) (p : Pile) : Type 0 where
  pub pile : p ≡ new_pile top n free
  pub rows : (k : ℕ) → is_shut (row_count top) n ≡ false → k < row_count top → FreshRow n (pile_net p) (pile_free p) k
  pub above : (i : ℕ) → i < n.places → n.layer i < next_layer n.places n.layer
  pub least : (m : ℕ) → 1 ≤ m → ((i : ℕ) → i < n.places → n.layer i < m) → next_layer n.places n.layer ≤ m
