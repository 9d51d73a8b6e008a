use Rattle.std.proofs.Common.{◌≡◌, refl, rules}
use Rattle.model.specs.Plant.{finished}
use Rattle.plant.proofs.Alone.{alone_finished}
use Rattle.table.specs.Tables.{net_of, tokens_in, tokens_of}
use Rattle.table.proofs.Firing.{finished_after, finished_held}
use Rattle.table.proofs.fire.TablePlant.finish.Goals as goal

pub invariant_of-self-clause-held : goal.invariant_of-self-clause-held
invariant_of-self-clause-held c =
    finished_held c.args.self.now c.args.t c.in_ok-may_finish.ensures c.change.new.tokens (λ p l. search (rules, c.change.ensures.changed p l)) c.change.ensures.rest

pub returns : goal.returns
returns c =
    let s = c.args.self.now in
    let e = c.in_ok-may_finish.ensures in
    let after : tokens_in s.places c.change.new.tokens ≡ finished (net_of s) (tokens_of s) c.args.t =
    finished_after s c.args.t e c.change.new.tokens (λ p l. search (rules, c.change.ensures.changed p l)) in
    record {
      answer = e;
      same = refl;
      after = after;
      whole = alone_finished (net_of s) (net_of s) (tokens_of s) _ c.args.t _ refl e after;
    }
