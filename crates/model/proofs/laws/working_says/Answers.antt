use Rattle.model.proofs.laws.working_says.Goals as goal
use Rattle.model.proofs.Rounds.{working_says}

pub returns : goal.returns
returns c = working_says
