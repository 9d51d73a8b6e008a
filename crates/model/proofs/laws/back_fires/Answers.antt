use Rattle.model.proofs.laws.back_fires.Goals as goal
use Rattle.model.proofs.Firing.{back_fires}

pub returns : goal.returns
returns c = back_fires
