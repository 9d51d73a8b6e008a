-- A ledger, by value.
--   value_of     the model's ledger that a ledger is
use Rattle.model.specs.Ledger as model
use Rattle.ledger.specs.declared.ledger.Ledger.{Ledger}
use Rattle.ledger.specs.Ledgers.{ledger_of}

abbrev pub value_of : {P plant net : _} → Ledger P plant net → model.Ledger
value_of {plant = plant} l = ledger_of (plant.pile l.pile) l.grants
