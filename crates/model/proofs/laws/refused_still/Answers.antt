use Rattle.model.proofs.laws.refused_still.Goals as goal
use Rattle.model.proofs.Standing.{refused_still}

pub returns : goal.returns
returns c = refused_still
