use Rattle.model.proofs.laws.divisor_gcd.Goals as goal
use Rattle.model.proofs.Rounds.{divisor_gcd}

pub returns : goal.returns
returns c = divisor_gcd
