use Rattle.model.proofs.laws.rows_stand.Goals as goal
use Rattle.model.proofs.RowsStand.{rows_stand}

pub returns : goal.returns
returns c = rows_stand
