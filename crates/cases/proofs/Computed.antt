-- The marked cases, computed.
use Rattle.std.proofs.Common.{List, [], ◌∷◌, map, refl, ap}
use Rattle.model.specs.Cases as model
use Rattle.model.proofs.Computed.{cases_hold}
use Rattle.formats.specs.Sums.{read_sum}
use Rattle.cases.specs.Marked.{AsMarked, marked_cases, seen_of, outcome}

-- what holds of the model's list holds of it here
lifted : (cs : List model.Case) → model.AsMarked cs → AsMarked (map seen_of cs)
lifted [] h = tt
lifted (c ∷ cs) h = (ap (map outcome) h.0, lifted cs h.1)

pub marked_hold : AsMarked marked_cases
unfolding read_sum
marked_hold = (refl, lifted model.marked_cases cases_hold)
