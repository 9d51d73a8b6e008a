use Rattle.std.proofs.Common.{refl}
use Rattle.formats.proofs.Samples.{net_samples, rules_samples}
use Rattle.formats.proofs.samples_read.Goals as goal

pub returns-clause-net : goal.returns-clause-net
returns-clause-net c = net_samples

pub returns-clause-rules : goal.returns-clause-rules
returns-clause-rules c = rules_samples

pub returns-clause-numbers : goal.returns-clause-numbers
returns-clause-numbers c = refl
