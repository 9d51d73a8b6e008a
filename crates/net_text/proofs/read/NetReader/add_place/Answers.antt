use Rattle.std.proofs.Common.{refl}
use Rattle.std.proofs.lemmas.Result.{err_from_is_err_and}
use Rattle.formats.specs.ReadNet.{place_checks}
use Rattle.net_text.specs.Nets.{net_of}
use Rattle.net_text.proofs.Adding.{checked_refuses, place_step, place_located}
use Rattle.net_text.proofs.read.NetReader.add_place.Goals as goal

pub returns-in_err-place : goal.returns-in_err-place
returns-in_err-place c =
    let p = err_from_is_err_and c.from_residual.result c.from_residual.ensures.1 in
    rw (p.1, p.2)
    (record {
      step = checked_refuses (place_checks (net_of c.args.self.now.text.now c.args.self.now.net) c.args.at.byte c.args.name.now c.args.tokens.now c.args.limit.now) c.args.at.line _ _ _ c.in_err-place.ensures;
      text = refl;
      located = tt;
    })

pub returns : goal.returns
returns c =
    record {
      text = refl;
      step = place_step c.args.self.now.text.now c.args.self.now.net c.push.new.self _ c.args.at.line c.args.at.byte c.args.name.now c.args.tokens.now c.args.limit.now c.in_ok-push.ensures.items c.in_ok-place.ensures c.requires.stands.0;
      located = place_located c.args.self.now.text.now c.args.self.now.net c.push.new.self _ c.args.at.line c.args.at.byte c.args.name.now c.args.tokens.now c.args.limit.now c.in_ok-push.ensures.items c.in_ok-place.ensures c.requires.stands.0;
    }
