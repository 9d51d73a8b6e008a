use Rattle.std.proofs.Common.{refl}
use Rattle.std.proofs.lemmas.Result.{err_from_is_err_and}
use Rattle.formats.specs.ReadNet.{move_checks}
use Rattle.net_text.specs.Nets.{net_of}
use Rattle.net_text.proofs.Adding.{checked_refuses, move_step, move_located}
use Rattle.net_text.proofs.read.NetReader.add_move.Goals as goal

pub returns-in_err-read : goal.returns-in_err-read
returns-in_err-read c =
    let p = err_from_is_err_and c.from_residual.result c.from_residual.ensures.1 in
    rw (p.1, p.2)
    (record {
      step = checked_refuses (move_checks (net_of c.args.self.now.text.now c.args.self.now.net) c.args.at.byte c.args.name.now c.args.letter.now) c.args.at.line _ _ _ c.in_err-read.ensures;
      text = refl;
      located = tt;
    })

pub returns : goal.returns
returns c =
    record {
      text = refl;
      step = move_step c.args.self.now.text.now c.args.self.now.net c.push.new.self _ c.args.at.line c.args.at.byte c.args.name.now c.args.letter.now c.in_ok-push.ensures.items c.in_ok-read.ensures c.requires.stands.0;
      located = move_located c.args.self.now.text.now c.args.self.now.net c.push.new.self _ c.args.at.line c.args.at.byte c.args.name.now c.args.letter.now c.in_ok-push.ensures.items c.in_ok-read.ensures c.requires.stands.0;
    }
