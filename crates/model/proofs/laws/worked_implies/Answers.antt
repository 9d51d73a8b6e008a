use Rattle.model.proofs.laws.worked_implies.Goals as goal
use Rattle.model.proofs.Standing.{worked_implies}

pub returns : goal.returns
returns c = worked_implies
