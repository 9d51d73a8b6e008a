use Rattle.model.proofs.laws.calls_fire.Goals as goal
use Rattle.model.proofs.CallsFire.{calls_fire}

pub returns : goal.returns
returns c = calls_fire
