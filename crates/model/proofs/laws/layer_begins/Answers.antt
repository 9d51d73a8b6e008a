use Rattle.model.proofs.laws.layer_begins.Goals as goal
use Rattle.model.proofs.LayerCalls.{layer_begins}

pub returns : goal.returns
returns c = layer_begins
