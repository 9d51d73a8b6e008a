use Rattle.std.proofs.Common.{rules, ℕ, ◌<◌, length, refl, arith, ◌∙◌}
use Rattle.std.proofs.lemmas.List.{get_or_append_left}
use Rattle.model.specs.Net.{Net}
use Rattle.model.proofs.Sums.{le_sum}
use Rattle.ledger.specs.Grants.{opened}
use Rattle.ledger.proofs.Counting.{brought_held, count_lowered, tally_fewer}
use Rattle.ledger.proofs.grants.Grants.remove.Goals as goal

pub overflow_sub-reserved : goal.overflow_sub-reserved
overflow_sub-reserved g c =
    let n : Net = g.N.Net.net c.args.net.now in
    let p : ℕ = c.places.p in
    omega (
      arith,
      c.places.invariant.rest p (omega arith) (omega arith),
      c.requires.tallied.reserved_is p (omega arith),
      brought_held n (opened c.args.self.now.counts) c.args.t p c.requires.there c.requires.open,
    )

pub overflow_sub-self-2 : goal.overflow_sub-self-2
overflow_sub-self-2 g c =
    omega (arith, le_sum (g.N.Net.net c.args.net.now).moves (opened c.args.self.now.counts) c.args.t c.requires.there, c.requires.tallied.total_is, c.requires.open)

pub returns-clause-tallied : goal.returns-clause-tallied
returns-clause-tallied g c =
    tally_fewer (g.N.Net.net c.args.net.now) c.args.self.now _ c.args.t c.requires.there c.requires.tallied c.requires.open
    (let b : c.args.t < length c.args.self.now.counts = search rules in count_lowered c.args.self.now.counts c.args.t b)
    refl
    (λ p l. get_or_append_left c.places.reserved-items _ 0 p (omega arith) ∙ c.places.invariant.done p (omega arith))
