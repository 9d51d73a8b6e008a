use Rattle.std.proofs.Common.{arith}
use Rattle.texts.proofs.Lining.{cut_is}
use Rattle.texts.proofs.lines.cut.Goals as goal

pub returns : goal.returns
returns c = cut_is c.args.line.now c.until-tab.result c.get.result c.until-tab.ensures.value (c.until-tab.ensures.within (omega arith)) c.get.ensures.lookup
