use Rattle.std.proofs.Common.{arith}
use Rattle.plant.proofs.Alone.{alone_begun}
use Rattle.line.specs.Lines.{net_of, tokens_of}
use Rattle.line.proofs.Firing.{begin_ok, begun_is, some_changed, small_changed, held_changed, same_net}
use Rattle.line.proofs.fire.LinePlant.begin.Goals as goal

pub lower-requires : goal.lower-requires
lower-requires c = let s = c.args.self.now in (begin_ok s c.args.t c.in_ok-may_begin.ensures c.in-Some.from c.in-Some.ensures.place.1).1

pub invariant_of-self-clause-some_limits : goal.invariant_of-self-clause-some_limits
invariant_of-self-clause-some_limits c = let s = c.args.self.now in some_changed s c.in-Some.from c.lower.new.self _ c.lower.ensures (omega (arith, (begin_ok s c.args.t c.in_ok-may_begin.ensures c.in-Some.from c.in-Some.ensures.place.1).0))

pub invariant_of-self-clause-small_limits : goal.invariant_of-self-clause-small_limits
invariant_of-self-clause-small_limits c = let s = c.args.self.now in small_changed s c.in-Some.from c.lower.new.self _ c.lower.ensures (omega (arith, (begin_ok s c.args.t c.in_ok-may_begin.ensures c.in-Some.from c.in-Some.ensures.place.1).0))

pub invariant_of-self-clause-held : goal.invariant_of-self-clause-held
invariant_of-self-clause-held c = let s = c.args.self.now in held_changed s c.in-Some.from c.lower.new.self _ c.lower.ensures (omega (arith, (begin_ok s c.args.t c.in_ok-may_begin.ensures c.in-Some.from c.in-Some.ensures.place.1).0)) (omega (arith, s.held c.in-Some.from))

pub returns-in-Some : goal.returns-in-Some
returns-in-Some c =
    let s = c.args.self.now in
    let e = c.in_ok-may_begin.ensures in
    let same = same_net s c.in-Some.from c.lower.new.self _ c.lower.ensures (omega (arith, (begin_ok s c.args.t c.in_ok-may_begin.ensures c.in-Some.from c.in-Some.ensures.place.1).0)) in
    let after = begun_is s c.args.t e c.in-Some.from c.in-Some.ensures.place.1 c.lower.new.self c.lower.ensures (omega (arith, (begin_ok s c.args.t c.in_ok-may_begin.ensures c.in-Some.from c.in-Some.ensures.place.1).0)) in
    record { answer = e; same = same; after = after; whole = alone_begun (net_of s) _ (tokens_of s) _ c.args.t _ same e after }
