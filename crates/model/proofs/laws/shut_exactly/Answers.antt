use Rattle.model.proofs.laws.shut_exactly.Goals as goal
use Rattle.model.proofs.InOrder.{shut_exactly}

pub returns : goal.returns
returns c = shut_exactly
