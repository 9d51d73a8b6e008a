use Rattle.texts.proofs.Naming.{clamped}
use Rattle.texts.proofs.names.part.Goals as goal

pub returns : goal.returns
returns c = clamped c.args.text.now c.args.span.start c.args.span.len c.min-start.result c.min-len.result c.min-start.ensures c.min-len.ensures
