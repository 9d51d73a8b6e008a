use Rattle.std.proofs.Common.{arith}
use Rattle.std.proofs.lemmas.Grind.{common_steps}
use Rattle.layers.proofs.layer.Layer+P+Table+N.or_row.Goals as goal

pub returns-in_err-lowest-in-None : goal.returns-in_err-lowest-in-None
returns-in_err-lowest-in-None g c = λ f tells. grind (arith, common_steps, c.lowest.ensures.told f tells)

pub returns-in_ok-lowest-in-None : goal.returns-in_ok-lowest-in-None
returns-in_ok-lowest-in-None g c = λ f tells. grind (arith, common_steps, c.lowest.ensures.told f tells)
