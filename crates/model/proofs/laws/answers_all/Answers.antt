use Rattle.model.proofs.laws.answers_all.Goals as goal
use Rattle.model.proofs.Standing.{answers_all}

pub returns : goal.returns
returns c = answers_all
