-- The record of a place that a plant can have.
--   is_filled p      the place's limit is at least 1 and not too large, and its tokens are at most that
use Rattle.std.specs.Prelude.{Bool, ◌&&◌, nat_le}
use Rattle.model.specs.Sizes.{most_limit}
use Rattle.net_text.specs.declared.net.Place.{Place}

abbrev pub is_filled : Place → Bool
is_filled p = nat_le 1 p.limit && (nat_le p.limit most_limit && nat_le p.tokens p.limit)
