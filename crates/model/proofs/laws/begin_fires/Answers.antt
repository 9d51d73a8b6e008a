use Rattle.model.proofs.laws.begin_fires.Goals as goal
use Rattle.model.proofs.Firing.{begin_fires}

pub returns : goal.returns
returns c = begin_fires
