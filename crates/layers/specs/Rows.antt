-- The model's values of a row and of rows.
--   row_of           the row that it is
--   nothing          what is read past the last row
--   rows_of          the rows of a table of them
--   only             one row, and none after it: the rows of a monitor's table
--   rule_row         the row of a rule that each move raises by so much, with so many tokens
--   Tells            a test of rows gives what f says of their values
--   top_of           the layer that a table of so many rows is for: a monitor's one row, and a board's otherwise
use Rattle.std.specs.Prelude.{◌≡◌, ℕ, Bool, true, false, cond, List, [], ℤ, pos, ◌==◌, slice_index_or}
use Rattle.model.specs.Rule.{positive, negative}
use Rattle.model.specs.Layer as model
use Rattle.model.specs.Layer.{Top, monitor, board}
use Rattle.model.specs.Sizes.{monitor_rows}
use Rattle.layers.specs.declared.row.Row.{Row}

abbrev pub row_of : Row → model.Row
row_of r = record { take = λ t. positive (slice_index_or r.raises t (pos 0)); give = λ t. negative (slice_index_or r.raises t (pos 0)); free = r.free; in_use = r.in_use }

abbrev pub nothing : Row
nothing = record { raises = []; free = 0; in_use = false }

unfoldable pub rows_of : List Row → ℕ → model.Row
rows_of rows r = row_of (slice_index_or rows r nothing)

abbrev pub only : Row → ℕ → model.Row
only row r = cond (r == 0) (row_of row) model.blank

abbrev pub rule_row : (ℕ → ℤ) → ℕ → model.Row
rule_row raises free = record { take = λ t. positive (raises t); give = λ t. negative (raises t); free = free; in_use = true }

abbrev pub top_of : ℕ → Top
top_of n = cond (n == monitor_rows) monitor board

abbrev pub Tells : (Row → Bool → Type 0) → (model.Row → Bool) → Type 0
Tells gives f = (row : Row) (b : Bool) → gives row b → b ≡ f (row_of row)
