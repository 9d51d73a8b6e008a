use Rattle.model.proofs.cases.numbers_hold.Goals as goal
use Rattle.model.proofs.Computed.{numbers_hold}

pub returns : goal.returns
returns c = numbers_hold
