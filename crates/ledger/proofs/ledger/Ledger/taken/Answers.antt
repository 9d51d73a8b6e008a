use Rattle.std.proofs.Common.{rules, ℕ, ◌*◌, ◌^◌, ◌∙◌, ap, arith}
use Rattle.std.proofs.lemmas.Iterator.{YieldsList-from_range, YieldsList-from_map}
use Rattle.std.proofs.lemmas.Iterator.Consumers.{sum_from_yields_List, fits_from_yields_list}
use Rattle.model.specs.Net.{Net, Ranges, sum}
use Rattle.ledger.specs.Grants.{opened}
use Rattle.ledger.proofs.Counting.{all_taken, sum_listed}
use Rattle.ledger.proofs.ledger.Ledger.taken.Goals as goal

pub sum-requires-clause-fits : goal.sum-requires-clause-fits
sum-requires-clause-fits g c =
    let s = c.args.self.now in
    let n : Net = g.P.Net.net s.pile in
    let r : Ranges n = g.met.P.Net.sound s.pile in
    let f : ℕ → ℕ = λ t. opened s.grants.counts t * n.take c.args.p t in
    let listed = sum_listed c.moves.result f ∙ ap (λ k. sum k f) c.moves.ensures in
    fits_from_yields_list c.map.result (2 ^ 32)
    (YieldsList-from_map _ f (YieldsList-from_range 0 c.moves.result c.moves.result (search rules) (omega arith)) c.map.ensures.closure (λ x r q k. search rules))
    (omega (arith, listed, all_taken n r (opened s.grants.counts) (omega (arith, s.tallied.few, s.tallied.total_is)) c.args.p))

pub returns : goal.returns
returns g c =
    let s = c.args.self.now in
    let n : Net = g.P.Net.net s.pile in
    let f : ℕ → ℕ = λ t. opened s.grants.counts t * n.take c.args.p t in
    sum_from_yields_List c.map.result c.sum.result c.sum.ensures.ran
    (YieldsList-from_map _ f (YieldsList-from_range 0 c.moves.result c.moves.result (search rules) (omega arith)) c.map.ensures.closure (λ x r q k. search rules))
    ∙ sum_listed c.moves.result f
    ∙ ap (λ k. sum k f) c.moves.ensures
