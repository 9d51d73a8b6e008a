use Rattle.model.proofs.laws.work_on_ground.Goals as goal
use Rattle.model.proofs.Standing.{work_on_ground}

pub returns : goal.returns
returns c = work_on_ground
