use Rattle.model.proofs.laws.grants_exact.Goals as goal
use Rattle.model.proofs.Exact.{grants_exact}

pub returns : goal.returns
returns c = grants_exact
