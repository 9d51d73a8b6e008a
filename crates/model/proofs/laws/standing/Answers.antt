use Rattle.model.proofs.laws.standing.Goals as goal
use Rattle.model.proofs.Standing.{standing}

pub returns : goal.returns
returns c = standing
