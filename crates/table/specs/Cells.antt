-- The arcs of a table.
--   none       where there is no arc
--   cell       the arc between the place p and the move t
--   put        what stands there once one more arc was read
--   cell_of    what the arcs of a net text say of the place p and the move t: the last of them does
use Rattle.std.specs.Prelude.{ℕ, cond, ◌&&◌, List, [], fold, ◌==◌, slice_index_or}
use Rattle.net_text.specs.declared.net.Arc.{Arc}
use Rattle.table.specs.declared.cell.Cell.{Cell}

abbrev pub none : Cell
none = record { take = 0; give = 0 }

abbrev pub cell : List (List Cell) → ℕ → ℕ → Cell
cell arcs p t = slice_index_or (slice_index_or arcs t []) p none

abbrev pub put : ℕ → ℕ → Cell → Arc → Cell
put p t v a = cond (a.place == p && a.transition == t) (record { take = a.take; give = a.give }) v

abbrev pub cell_of : List Arc → ℕ → ℕ → Cell
cell_of xs p t = fold (put p t) none xs
