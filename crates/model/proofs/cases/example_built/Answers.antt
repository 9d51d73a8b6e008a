use Rattle.model.proofs.cases.example_built.Goals as goal
use Rattle.model.proofs.Computed.{example_built}

pub returns : goal.returns
returns c = example_built
