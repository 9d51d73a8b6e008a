use Rattle.panel.proofs.Bad.{orders_decided}
use Rattle.panel.proofs.run.orders_decided.Goals as goal

pub returns : goal.returns
returns c = orders_decided
