-- The places of a layer.
--   own_row          the row of a layer of so many rows over the net that has the place p, if one has
use Rattle.std.specs.Prelude.{ℕ, ◌-◌, cond, not, ◌&&◌, Some, None, Option}
use Rattle.model.specs.Net.{Net}
use Rattle.model.specs.Layer.{is_shut, own_place}

abbrev pub own_row : ℕ → Net → ℕ → Option ℕ
own_row size n p = cond (not (is_shut size n) && own_place size n p) (Some (p - n.places)) None
