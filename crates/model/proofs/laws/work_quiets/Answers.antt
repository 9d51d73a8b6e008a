use Rattle.model.proofs.laws.work_quiets.Goals as goal
use Rattle.model.proofs.Standing.{work_quiets}

pub returns : goal.returns
returns c = work_quiets
