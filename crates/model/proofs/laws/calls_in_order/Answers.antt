use Rattle.model.proofs.laws.calls_in_order.Goals as goal
use Rattle.model.proofs.InOrder.{calls_in_order}

pub returns : goal.returns
returns c = calls_in_order
