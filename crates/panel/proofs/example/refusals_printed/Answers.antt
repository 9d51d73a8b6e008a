use Rattle.panel.proofs.Refusing.{refusals_printed}
use Rattle.panel.proofs.example.refusals_printed.Goals as goal

pub returns : goal.returns
returns c = refusals_printed
