use Rattle.model.proofs.laws.is_round.Goals as goal
use Rattle.model.proofs.Rounds.{is_round}

pub returns : goal.returns
returns c = is_round
