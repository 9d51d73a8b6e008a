use Rattle.std.proofs.Common.{rules}
use Rattle.texts.proofs.Lining.{five_more}
use Rattle.texts.proofs.lines.record_of.Goals as goal

pub returns-in_default-rest-3 : goal.returns-in_default-rest-3
returns-in_default-rest-3 c = search (rules, five_more)
