-- The places of a line.
--   none   where there is no place
--   slot   the place p
use Rattle.std.specs.Prelude.{ℕ, List, slice_index_or}
use Rattle.line.specs.declared.slot.Slot.{Slot}

abbrev pub none : Slot
none = record { limit = 0; tokens = 0 }

abbrev pub slot : List Slot → ℕ → Slot
slot slots p = slice_index_or slots p none
