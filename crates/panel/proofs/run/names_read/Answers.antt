use Rattle.panel.proofs.Naming.{names_read}
use Rattle.panel.proofs.run.names_read.Goals as goal

pub returns : goal.returns
returns c = names_read
