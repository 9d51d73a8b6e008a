use Rattle.model.proofs.laws.reports_exact.Goals as goal
use Rattle.model.proofs.Exact.{reports_exact}

pub returns : goal.returns
returns c = reports_exact
