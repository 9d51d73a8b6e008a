use Rattle.model.proofs.laws.above_all.Goals as goal
use Rattle.model.proofs.LayerCalls.{above_all}

pub returns : goal.returns
returns c = above_all
