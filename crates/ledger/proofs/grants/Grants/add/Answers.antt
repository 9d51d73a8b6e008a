use Rattle.std.proofs.Common.{rules, ℕ, ◌<◌, length, refl, arith, ◌∙◌}
use Rattle.std.proofs.lemmas.List.{get_or_append_left}
use Rattle.model.specs.Net.{Net, Ranges}
use Rattle.model.proofs.Sums.{le_sum}
use Rattle.ledger.specs.Grants.{opened}
use Rattle.ledger.proofs.Counting.{brought_small, reserved_small, count_raised, tally_more}
use Rattle.ledger.proofs.grants.Grants.add.Goals as goal

pub overflow_add-reserved : goal.overflow_add-reserved
overflow_add-reserved g c =
    let n : Net = g.N.Net.net c.args.net.now in
    let r : Ranges n = g.met.N.Net.sound c.args.net.now in
    let p : ℕ = c.places.p in
    omega (
      arith,
      c.places.invariant.rest p (omega arith) (omega arith),
      c.requires.tallied.reserved_is p (omega arith),
      reserved_small n (opened c.args.self.now.counts) p r (omega (arith, c.requires.tallied.total_is)),
      brought_small n r p c.args.t,
    )

pub overflow_add-self : goal.overflow_add-self
overflow_add-self g c = omega (arith, le_sum (g.N.Net.net c.args.net.now).moves (opened c.args.self.now.counts) c.args.t c.requires.there, c.requires.tallied.total_is)

pub returns-clause-tallied : goal.returns-clause-tallied
returns-clause-tallied g c =
    tally_more (g.N.Net.net c.args.net.now) c.args.self.now _ c.args.t c.requires.there c.requires.tallied c.requires.controllable c.requires.room
    (let b : c.args.t < length c.args.self.now.counts = search rules in count_raised c.args.self.now.counts c.args.t b)
    refl
    (λ p l. get_or_append_left c.places.reserved-items _ 0 p (omega arith) ∙ c.places.invariant.done p (omega arith))
