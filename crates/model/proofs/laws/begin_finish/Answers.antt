use Rattle.model.proofs.laws.begin_finish.Goals as goal
use Rattle.model.proofs.Firing.{begin_finish}

pub returns : goal.returns
returns c = begin_finish
