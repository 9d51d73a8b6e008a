use Rattle.model.proofs.laws.new_rows.Goals as goal
use Rattle.model.proofs.LayerCalls.{new_rows}

pub returns : goal.returns
returns c = new_rows
