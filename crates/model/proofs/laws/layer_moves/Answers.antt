use Rattle.model.proofs.laws.layer_moves.Goals as goal
use Rattle.model.proofs.LayerCalls.{layer_moves}

pub returns : goal.returns
returns c = layer_moves
