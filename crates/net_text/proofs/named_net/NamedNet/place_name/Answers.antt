use Rattle.std.proofs.Common.{rules}
use Rattle.net_text.proofs.Names.{places_of}
use Rattle.net_text.proofs.named_net.NamedNet.place_name.Goals as goal

pub returns : goal.returns
returns c = let e = places_of c.self.inside.text.now c.self.inside.net.now in rw (← c.self.view_is) (search rules)
