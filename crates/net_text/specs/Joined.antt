-- Which place and move an arc joins, by the pairs that are marked.
--   has j p t        the place p and the move t are marked in j
--   Marks j xs       of each place that a net can have, j has just the pairs that the arcs xs join
use Rattle.std.specs.Prelude.{◌≡◌, ℕ, ◌+◌, ◌*◌, ◌<◌, Bool, false, not, List, map, slice_index_or}
use Rattle.model.specs.Sizes.{most_places}
use Rattle.formats.specs.ReadNet.{is_new_pair}
use Rattle.net_text.specs.declared.net.Arc.{Arc}
use Rattle.net_text.specs.declared.joined.Joined.{Joined}
use Rattle.net_text.specs.Nets.{arc_of}

abbrev pub has : Joined → ℕ → ℕ → Bool
has j p t = slice_index_or j.pairs (t * most_places + p) false

abbrev pub Marks : Joined → List Arc → Type 0
Marks j xs = (p t : ℕ) → p < most_places → has j p t ≡ not (is_new_pair (map arc_of xs) p t)
