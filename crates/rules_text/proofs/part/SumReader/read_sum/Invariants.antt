use Rattle.std.proofs.Common.{◌-◌, length}
use Rattle.formats.specs.NetText.{place_names}
use Rattle.rules_text.proofs.Going.{Going}
use Rattle.rules_text.proofs.part.SumReader.read_sum.Given as goal

abbrev pub invariant-parts : goal.invariant-parts
invariant-parts l = Going (place_names l.self.net.now) l.self.byte l.self.sum.now l.start l.minus l.weights

abbrev pub decreases-parts : goal.decreases-parts
decreases-parts l = length l.self.sum.now - l.start
