use Rattle.model.proofs.laws.finish_fires.Goals as goal
use Rattle.model.proofs.Firing.{finish_fires}

pub returns : goal.returns
returns c = finish_fires
