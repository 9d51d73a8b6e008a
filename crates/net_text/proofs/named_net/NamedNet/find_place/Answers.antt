use Rattle.std.proofs.Common.{rules}
use Rattle.net_text.proofs.Names.{places_of}
use Rattle.net_text.proofs.named_net.NamedNet.find_place.Goals as goal

pub returns-clause-value : goal.returns-clause-value
returns-clause-value c = let e = places_of c.self.inside.text.now c.self.inside.net.now in rw (← c.self.view_is) (search rules)
