use Rattle.model.proofs.laws.admits_exact.Goals as goal
use Rattle.model.proofs.Admitting.{admits_exact}

pub returns : goal.returns
returns c = admits_exact
