use Rattle.std.proofs.Common.{Some, None, arith}
use Rattle.std.proofs.lemmas.Bool.{lt-ltb, le-ltb}
use Rattle.model.specs.Working.{rising, falls}
use Rattle.plant.proofs.Lowest.{sought_on, found_here, found_nowhere}
use Rattle.rules.specs.Rules.{worked_of}
use Rattle.rules.proofs.Finding.{held, rises, stays, found}
use Rattle.rules.proofs.worked.WorkedRule.rising.Goals as goal
use Rattle.rules.proofs.worked.WorkedRule.rising.Goals.{else-not-controllable-via-then-not-controllable+else-raise-gt0, else-not-controllable-via-else-not-controllable}

pub places-preserved : goal.places-preserved
places-preserved g c =
    let n = g.N.Net.net c.args.net.now in
    sought_on (falls n c.moves.t) n.ground_places c.places.p c.places.invariant (omega (arith, c.ground-p-end.ensures))
    (le-ltb _ _ (omega (arith, c.give.ensures, c.take.ensures)))

pub moves-preserved : goal.moves-preserved
moves-preserved g c =
    let n = g.N.Net.net c.args.net.now in
    let w = worked_of c.args.self.now in
    sought_on (rising n w) n.moves c.moves.t c.moves.invariant (omega (arith, c.moves-t-end.ensures))
    (elim c.else-not-controllable.branch [
      | else-not-controllable-via-then-not-controllable+else-raise-gt0 d ↦ stays n w c.moves.t c.controllable.result c.controllable.ensures d.raise.result (record { sfits = d.raise.type_inv }) d.raise.ensures d.if-raise-gt0.false
      | else-not-controllable-via-else-not-controllable d ↦ held n w c.moves.t c.controllable.result c.controllable.ensures d.if-not-controllable.false
    ])

pub returns-then-give-take : goal.returns-then-give-take
returns-then-give-take g c =
    let n = g.N.Net.net c.args.net.now in
    let w = worked_of c.args.self.now in
    found n w c.moves.t (Some c.places.p)
    (found_here (rising n w) n.moves c.moves.t c.moves.invariant (omega (arith, c.moves-t-end.ensures))
    (rises n w c.moves.t c.controllable.result c.controllable.ensures c.raise.result (record { sfits = c.raise.type_inv }) c.raise.ensures c.if-not-controllable.true c.if-raise-gt0.true))
    (found_here (falls n c.moves.t) n.ground_places c.places.p c.places.invariant (omega (arith, c.ground-p-end.ensures))
    (lt-ltb _ _ (omega (arith, c.give.ensures, c.take.ensures))))

pub returns-after-places : goal.returns-after-places
returns-after-places g c =
    let n = g.N.Net.net c.args.net.now in
    let w = worked_of c.args.self.now in
    found n w c.moves.t None
    (found_here (rising n w) n.moves c.moves.t c.moves.invariant (omega (arith, c.moves-t-end.ensures))
    (rises n w c.moves.t c.controllable.result c.controllable.ensures c.raise.result (record { sfits = c.raise.type_inv }) c.raise.ensures c.if-not-controllable.true c.if-raise-gt0.true))
    (found_nowhere (falls n c.moves.t) n.ground_places c.places.p c.places.invariant (omega (arith, c.ground-p-end.ensures)))
