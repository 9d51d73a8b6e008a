use Rattle.std.proofs.Common.{◌+◌, ◌<◌, length, arith}
use Rattle.model.specs.Sizes.{most_places, most_moves}
use Rattle.net_text.specs.declared.net.Place.{Place}
use Rattle.net_text.specs.declared.net.Move.{Move}
use Rattle.net_text.specs.Nets.{net_of}
use Rattle.texts.specs.Spans.{part_of}
use Rattle.texts.proofs.Checking.{passed_on}
use Rattle.net_text.proofs.Names.{knows_place, knows_move, known_in}
use Rattle.net_text.proofs.ArcLines.{no_place, no_move, no_weights, no_pair, arc_fits}
use Rattle.net_text.proofs.read.NetReader.read_arc.Goals as goal
use Rattle.net_text.proofs.read.NetReader.read_arc.Goals.{In_ok-t}

pub returns-in_err-p-clause-answer : goal.returns-in_err-p-clause-answer
returns-in_err-p-clause-answer c =
    let bs = c.args.self.now.text.now in
    let x = c.args.self.now.net in
    passed_on c.from_residual.result c.from_residual.ensures.1
    (no_place (net_of bs x) c.args.at.byte c.args.at.line c.args.place.now c.args.transition.now c.args.take.now c.args.give.now _ (knows_place bs x _ (c.args.at.byte + 4) c.args.at.line c.args.place.now c.in_err-p.ensures c.deref.ensures.value))

pub returns-in_err-t-clause-answer : goal.returns-in_err-t-clause-answer
returns-in_err-t-clause-answer c =
    let bs = c.args.self.now.text.now in
    let x = c.args.self.now.net in
    passed_on c.from_residual-in_err-t.result c.from_residual-in_err-t.ensures.1
    (no_move (net_of bs x) c.args.at.byte c.args.at.line c.args.place.now c.args.transition.now c.args.take.now c.args.give.now
    _ (knows_place bs x _ (c.args.at.byte + 4) c.args.at.line c.args.place.now c.in_ok-p.ensures c.deref.ensures.value) _ (knows_move bs x _ (c.args.at.byte + 4 + length c.args.place.now + 1) c.args.at.line c.args.transition.now c.in_err-t.ensures c.deref-2.ensures.value))

pub returns-in_err-take-clause-answer : goal.returns-in_err-take-clause-answer
returns-in_err-take-clause-answer c =
    let bs = c.args.self.now.text.now in
    let x = c.args.self.now.net in
    passed_on c.from_residual-in_err-take.result c.from_residual-in_err-take.ensures.1
    (no_weights (net_of bs x) c.args.at.byte c.args.at.line c.args.place.now c.args.transition.now c.args.take.now c.args.give.now
    _ (knows_place bs x _ (c.args.at.byte + 4) c.args.at.line c.args.place.now c.in_ok-p.ensures c.deref.ensures.value) _ (knows_move bs x _ (c.args.at.byte + 4 + length c.args.place.now + 1) c.args.at.line c.args.transition.now c.in_ok-t.ensures c.deref-2.ensures.value) _ c.in_err-take.ensures)

pub returns-in_err-check_pair-clause-answer : goal.returns-in_err-check_pair-clause-answer
returns-in_err-check_pair-clause-answer c =
    let bs = c.args.self.now.text.now in
    let x = c.args.self.now.net in
    passed_on c.from_residual-in_err-check_pair.result c.from_residual-in_err-check_pair.ensures.1
    (no_pair (net_of bs x) c.args.at.byte c.args.at.line c.args.place.now c.args.transition.now c.args.take.now c.args.give.now
    _ (knows_place bs x _ (c.args.at.byte + 4) c.args.at.line c.args.place.now c.in_ok-p.ensures c.deref.ensures.value) _ (knows_move bs x _ (c.args.at.byte + 4 + length c.args.place.now + 1) c.args.at.line c.args.transition.now c.in_ok-t.ensures c.deref-2.ensures.value) _ c.in_ok-take.ensures _ c.in_err-check_pair.ensures)

pub returns-clause-answer : goal.returns-clause-answer
returns-clause-answer c =
    let bs = c.args.self.now.text.now in
    let x = c.args.self.now.net in
    arc_fits (net_of bs x) c.args.at.byte c.args.at.line c.args.place.now c.args.transition.now c.args.take.now c.args.give.now
    _ (knows_place bs x _ (c.args.at.byte + 4) c.args.at.line c.args.place.now c.in_ok-p.ensures c.deref.ensures.value) _ (knows_move bs x _ (c.args.at.byte + 4 + length c.args.place.now + 1) c.args.at.line c.args.transition.now c.in_ok-t.ensures c.deref-2.ensures.value) _ c.in_ok-take.ensures c.in_ok-check_pair.ensures

-- the place and the move that were found are among those that a net can have
inside : (c : In_ok-t) → (c.in_ok-p.p < most_places) × (c.in_ok-t.t < most_moves)
inside c =
    let bs = c.args.self.now.text.now in
    let p = known_in (λ (p : Place). part_of bs p.name) _ _ (c.args.at.byte + 4) c.args.at.line c.args.place.now c.in_ok-p.ensures c.deref.ensures.value in
    let t = known_in (λ (m : Move). part_of bs m.name) _ _ (c.args.at.byte + 4 + length c.args.place.now + 1) c.args.at.line c.args.transition.now c.in_ok-t.ensures c.deref-2.ensures.value in
    (omega arith, omega arith)

pub check_pair-requires : goal.check_pair-requires
check_pair-requires c = inside (goal.at.check_pair-requires c).In_ok-t

pub returns-clause-inside : goal.returns-clause-inside
returns-clause-inside c = inside (goal.at.returns-clause-inside c).In_ok-t
