use Rattle.std.proofs.Common.{sym, ◌∙◌, arith, rules}
use borrow.Author.Differences.{ints}
use Rattle.rules_text.proofs.Bounds.{whole_small, whole_is, whole_within}
use Rattle.rules_text.proofs.read.whole.Goals as goal

pub map-requires : goal.map-requires
map-requires c = λ x e a b. let l = whole_small c.args.field.now x (sym e ∙ c.number.ensures) in omega (arith, ints)

pub returns-clause-value : goal.returns-clause-value
returns-clause-value c = let e = whole_is c.args.field.now in search rules

pub returns-clause-within : goal.returns-clause-within
returns-clause-within c = whole_within c.args.field.now c.map.result (returns-clause-value c)
