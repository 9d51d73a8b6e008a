use Rattle.std.proofs.Common.{◌≡◌, refl, rules}
use Rattle.model.specs.Plant.{begun}
use Rattle.plant.proofs.Alone.{alone_begun}
use Rattle.table.specs.Tables.{net_of, tokens_in, tokens_of}
use Rattle.table.proofs.Firing.{begin_takes, begun_after, begun_held}
use Rattle.table.proofs.fire.TablePlant.begin.Goals as goal

pub change-requires-clause-may : goal.change-requires-clause-may
change-requires-clause-may c = λ p l. search (rules, begin_takes c.args.self.now c.args.t c.in_ok-may_begin.ensures p)

pub invariant_of-self-clause-held : goal.invariant_of-self-clause-held
invariant_of-self-clause-held c =
    begun_held c.args.self.now c.args.t c.in_ok-may_begin.ensures c.change.new.tokens (λ p l. search (rules, c.change.ensures.changed p l)) c.change.ensures.rest

pub returns : goal.returns
returns c =
    let s = c.args.self.now in
    let e = c.in_ok-may_begin.ensures in
    let after : tokens_in s.places c.change.new.tokens ≡ begun (net_of s) (tokens_of s) c.args.t =
    begun_after s c.args.t e c.change.new.tokens (λ p l. search (rules, c.change.ensures.changed p l)) in
    record {
      answer = e;
      same = refl;
      after = after;
      whole = alone_begun (net_of s) (net_of s) (tokens_of s) _ c.args.t _ refl e after;
    }
