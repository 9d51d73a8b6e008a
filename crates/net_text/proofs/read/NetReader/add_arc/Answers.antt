use Rattle.std.proofs.Common.{vec_items, refl}
use Rattle.std.proofs.lemmas.Result.{err_from_is_err_and}
use Rattle.formats.specs.ReadNet.{arc_checks}
use Rattle.net_text.specs.Nets.{net_of}
use Rattle.net_text.proofs.Joining.{marks_more}
use Rattle.net_text.proofs.Adding.{checked_refuses, arc_step, arc_located}
use Rattle.net_text.proofs.read.NetReader.add_arc.Goals as goal

pub returns-in_err-arc : goal.returns-in_err-arc
returns-in_err-arc c =
    let p = err_from_is_err_and c.from_residual.result c.from_residual.ensures.1 in
    rw (p.1, p.2)
    (record {
      step = checked_refuses (arc_checks (net_of c.args.self.now.text.now c.args.self.now.net) c.args.at.byte c.args.place.now c.args.transition.now c.args.take.now c.args.give.now) c.args.at.line _ _ _ c.in_err-arc.ensures.answer;
      text = refl;
      located = tt;
    })

pub returns : goal.returns
returns c =
    record {
      text = refl;
      step = arc_step c.args.self.now.text.now c.args.self.now.net c.push.new.self _ c.args.at.line c.args.at.byte c.args.place.now c.args.transition.now c.args.take.now c.args.give.now c.in_ok-push.ensures.items c.in_ok-arc.ensures.answer;
      located = arc_located c.args.self.now.text.now c.args.self.now.net c.push.new.self _ c.args.at.line c.args.at.byte c.args.place.now c.args.transition.now c.args.take.now c.args.give.now c.in_ok-push.ensures.items c.in_ok-arc.ensures.answer;
    }

pub invariant_of-self-2-clause-marks : goal.invariant_of-self-2-clause-marks
invariant_of-self-2-clause-marks c =
    marks_more c.args.self.now.joined c.add.new.self (vec_items c.args.self.now.net.arcs) (vec_items c.push.new.self) c.in_ok-arc.arc c.args.self.now.marks c.in_ok-push.ensures.items c.add.ensures
