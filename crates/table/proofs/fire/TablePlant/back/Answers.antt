use Rattle.std.proofs.Common.{◌≡◌, refl, rules}
use Rattle.model.specs.Plant.{gone_back}
use Rattle.plant.proofs.Alone.{alone_gone_back}
use Rattle.table.specs.Tables.{net_of, tokens_in, tokens_of}
use Rattle.table.proofs.Firing.{gone_back_after, gone_back_held}
use Rattle.table.proofs.fire.TablePlant.back.Goals as goal

pub invariant_of-self-clause-held : goal.invariant_of-self-clause-held
invariant_of-self-clause-held c =
    gone_back_held c.args.self.now c.args.t c.in_ok-may_back.ensures c.change.new.tokens (λ p l. search (rules, c.change.ensures.changed p l)) c.change.ensures.rest

pub returns : goal.returns
returns c =
    let s = c.args.self.now in
    let e = c.in_ok-may_back.ensures in
    let after : tokens_in s.places c.change.new.tokens ≡ gone_back (net_of s) (tokens_of s) c.args.t =
    gone_back_after s c.args.t e c.change.new.tokens (λ p l. search (rules, c.change.ensures.changed p l)) in
    record {
      answer = e;
      same = refl;
      after = after;
      whole = alone_gone_back (net_of s) (net_of s) (tokens_of s) _ c.args.t _ refl e after;
    }
