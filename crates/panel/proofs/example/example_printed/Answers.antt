use Rattle.panel.proofs.Computed.{example_printed}
use Rattle.panel.proofs.example.example_printed.Goals as goal

pub returns : goal.returns
returns c = example_printed
