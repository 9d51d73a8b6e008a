use Rattle.model.proofs.laws.numbers_apart.Goals as goal
use Rattle.model.proofs.Numbers.{numbers_apart}

pub returns : goal.returns
returns c = numbers_apart
