use Rattle.std.proofs.Common.{rules}
use Rattle.rules_text.proofs.Parts.{factor_small}
use Rattle.rules_text.proofs.part.factor.Goals as goal

pub returns-clause-within : goal.returns-clause-within
returns-clause-within c = factor_small c.args.digits.now c.filter.result (search rules)
