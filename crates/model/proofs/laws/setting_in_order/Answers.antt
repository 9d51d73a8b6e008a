use Rattle.model.proofs.laws.setting_in_order.Goals as goal
use Rattle.model.proofs.InOrder.{setting_in_order}

pub returns : goal.returns
returns c = setting_in_order
