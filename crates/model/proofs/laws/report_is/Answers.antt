use Rattle.model.proofs.laws.report_is.Goals as goal
use Rattle.model.proofs.Standing.{report_is}

pub returns : goal.returns
returns c = report_is
