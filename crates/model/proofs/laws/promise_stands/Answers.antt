use Rattle.model.proofs.laws.promise_stands.Goals as goal
use Rattle.model.proofs.Running.{promise}

pub returns : goal.returns
returns c = promise
