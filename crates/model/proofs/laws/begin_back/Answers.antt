use Rattle.model.proofs.laws.begin_back.Goals as goal
use Rattle.model.proofs.Firing.{begin_back}

pub returns : goal.returns
returns c = begin_back
