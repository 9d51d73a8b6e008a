use Rattle.model.proofs.laws.layer_keeps.Goals as goal
use Rattle.model.proofs.LayerCalls.{layer_keeps}

pub returns : goal.returns
returns c = layer_keeps
