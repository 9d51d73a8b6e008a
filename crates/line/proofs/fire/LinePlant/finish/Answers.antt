use Rattle.std.proofs.Common.{arith}
use Rattle.plant.proofs.Alone.{alone_finished}
use Rattle.line.specs.Lines.{net_of, tokens_of}
use Rattle.line.proofs.Firing.{finish_ok, finished_is, some_changed, small_changed, held_changed, same_net}
use Rattle.line.proofs.fire.LinePlant.finish.Goals as goal

pub raise-requires : goal.raise-requires
raise-requires c = let s = c.args.self.now in omega (arith, finish_ok s c.args.t c.in_ok-may_finish.ensures c.in-Some.to c.in-Some.ensures.place.0 c.in-Some.ensures.place.1)

pub invariant_of-self-clause-some_limits : goal.invariant_of-self-clause-some_limits
invariant_of-self-clause-some_limits c = let s = c.args.self.now in some_changed s c.in-Some.to c.raise.new.self _ c.raise.ensures (omega (arith, c.in-Some.ensures.place.0))

pub invariant_of-self-clause-small_limits : goal.invariant_of-self-clause-small_limits
invariant_of-self-clause-small_limits c = let s = c.args.self.now in small_changed s c.in-Some.to c.raise.new.self _ c.raise.ensures (omega (arith, c.in-Some.ensures.place.0))

pub invariant_of-self-clause-held : goal.invariant_of-self-clause-held
invariant_of-self-clause-held c = let s = c.args.self.now in held_changed s c.in-Some.to c.raise.new.self _ c.raise.ensures (omega (arith, c.in-Some.ensures.place.0)) (finish_ok s c.args.t c.in_ok-may_finish.ensures c.in-Some.to c.in-Some.ensures.place.0 c.in-Some.ensures.place.1)

pub returns-in-Some : goal.returns-in-Some
returns-in-Some c =
    let s = c.args.self.now in
    let e = c.in_ok-may_finish.ensures in
    let same = same_net s c.in-Some.to c.raise.new.self _ c.raise.ensures (omega (arith, c.in-Some.ensures.place.0)) in
    let after = finished_is s c.args.t e c.in-Some.to c.in-Some.ensures.place.0 c.in-Some.ensures.place.1 c.raise.new.self c.raise.ensures (omega (arith, c.in-Some.ensures.place.0)) in
    record { answer = e; same = same; after = after; whole = alone_finished (net_of s) _ (tokens_of s) _ c.args.t _ same e after }
