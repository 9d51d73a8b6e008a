-- The model's ledger of a ledger.
--   ledger_of    over the pile that the plant is, and the counts of open grants
use Rattle.model.specs.Layer.{Pile}
use Rattle.model.specs.Ledger as model
use Rattle.ledger.specs.declared.grants.Grants.{Grants}
use Rattle.ledger.specs.Grants.{opened}

abbrev pub ledger_of : Pile → Grants → model.Ledger
ledger_of p g = record { pile = p; opened = opened g.counts }
