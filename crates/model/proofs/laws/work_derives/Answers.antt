use Rattle.model.proofs.laws.work_derives.Goals as goal
use Rattle.model.proofs.Standing.{work_derives}

pub returns : goal.returns
returns c = work_derives
