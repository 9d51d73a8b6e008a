use Rattle.rules.proofs.Absorbing.{bound_is}
use Rattle.rules.proofs.worked.WorkedRule.absorbed_bound.Goals as goal

pub returns : goal.returns
returns c = bound_is c.args.absorption.factor c.args.self.now.bound c.args.absorption.modest.factor_small c.args.self.now.small_bound
