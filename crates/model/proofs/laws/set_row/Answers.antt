use Rattle.model.proofs.laws.set_row.Goals as goal
use Rattle.model.proofs.JustSet.{set_row}

pub returns : goal.returns
returns c = set_row
