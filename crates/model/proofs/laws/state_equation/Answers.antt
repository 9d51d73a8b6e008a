use Rattle.model.proofs.laws.state_equation.Goals as goal
use Rattle.model.proofs.StateEquation.{state_equation}

pub returns : goal.returns
returns c = state_equation
