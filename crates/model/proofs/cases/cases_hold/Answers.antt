use Rattle.model.proofs.cases.cases_hold.Goals as goal
use Rattle.model.proofs.Computed.{cases_hold}

pub returns : goal.returns
returns c = cases_hold
