use Rattle.std.proofs.Common.{rules}
use Rattle.net_text.proofs.Names.{moves_of}
use Rattle.net_text.proofs.named_net.NamedNet.find_move.Goals as goal

pub returns-clause-value : goal.returns-clause-value
returns-clause-value c = let e = moves_of c.self.inside.text.now c.self.inside.net.now in rw (← c.self.view_is) (search rules)
