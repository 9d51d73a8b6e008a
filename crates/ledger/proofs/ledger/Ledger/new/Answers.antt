use Rattle.ledger.proofs.Upheld.{promise_new}
use Rattle.ledger.specs.Ledgers.{ledger_of}
use Rattle.ledger.proofs.ledger.Ledger.new.Goals as goal

pub invariant_of-result : goal.invariant_of-result
invariant_of-result g c = record { tallied = c.none.ensures.tallied (g.P.Net.net c.args.pile) }

pub returns-clause-promise : goal.returns-clause-promise
returns-clause-promise g c = promise_new (g.P.Plant.pile c.args.pile) (ledger_of (g.P.Plant.pile c.args.pile) c.none.result) (λ i. record { pile = g.P.Plant.pile c.args.pile; opened = c.none.ensures.none i })
