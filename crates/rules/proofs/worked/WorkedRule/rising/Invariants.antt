use Rattle.model.specs.Working.{rising, falls}
use Rattle.plant.proofs.Lowest.{Sought}
use Rattle.rules.specs.Rules.{worked_of}
use Rattle.rules.proofs.worked.WorkedRule.rising.Given as goal

abbrev pub invariant-moves : goal.invariant-moves
invariant-moves g l = Sought (rising (g.N.Net.net l.net) (worked_of l.self)) (g.N.Net.net l.net).moves l.t

abbrev pub invariant-places : goal.invariant-places
invariant-places g l = Sought (falls (g.N.Net.net l.net) l.t) (g.N.Net.net l.net).ground_places l.p
