-- The net that a table stands for.
--   table_net        n places and k moves, with what is said of their letters, arcs and limits; all else is 0
--   net_of           the net of a table
--   tokens_in        of these tokens those at the places, of which there are n
--   tokens_of        the tokens at each place of a table
use Rattle.std.specs.Prelude.{ℕ, Bool, false, cond, ◌&&◌, List, nat_lt, slice_index, slice_index_or}
use Rattle.model.specs.Net.{Net}
use Rattle.table.specs.declared.table.Table.{Table}
use Rattle.table.specs.Cells.{cell}

abbrev pub table_net : ℕ → ℕ → (ℕ → Bool) → (ℕ → ℕ → ℕ) → (ℕ → ℕ → ℕ) → (ℕ → ℕ) → Net
table_net n k letters takes gives limits = record {
  ground_places = n;
  places = n;
  moves = k;
  controllable = λ t. nat_lt t k && letters t;
  take = λ p t. cond (nat_lt p n && nat_lt t k) (takes p t) 0;
  give = λ p t. cond (nat_lt p n && nat_lt t k) (gives p t) 0;
  limit = λ p. cond (nat_lt p n) (limits p) 0;
  layer = λ p. 0;
  row = λ p. 0;
}

abbrev pub net_of : Table → Net
net_of s = table_net s.places s.moves (λ t. slice_index_or s.controllable t false) (λ p t. (cell s.arcs p t).take) (λ p t. (cell s.arcs p t).give) (λ p. slice_index_or s.limits p 1)

abbrev pub tokens_in : ℕ → List ℕ → ℕ → ℕ
tokens_in n tokens p = cond (nat_lt p n) (slice_index tokens p) 0

abbrev pub tokens_of : Table → ℕ → ℕ
tokens_of s = tokens_in s.places s.tokens
