-- What the search for a round finds.
--   rising_at      a move, if there is one, with the lowest ground place of which it takes more than it gives
--   round_search   the lowest uncontrollable move that raises the rule, so
use Rattle.std.specs.Prelude.{ℕ, Some, None, Option}
use Rattle.model.specs.Net.{Net}
use Rattle.model.specs.Plant.{lowest}
use Rattle.model.specs.Rule.{Worked}
use Rattle.model.specs.Working.{rising, falls}
use Rattle.rules.specs.declared.search.Rising.{Rising}

abbrev pub rising_at : Net → Option ℕ → Option Rising
rising_at n (Some t) = Some (record { transition = t; absorber = lowest (falls n t) 0 n.ground_places })
rising_at n None = None

abbrev pub round_search : Net → Worked → Option Rising
round_search n w = rising_at n (lowest (rising n w) 0 n.moves)
