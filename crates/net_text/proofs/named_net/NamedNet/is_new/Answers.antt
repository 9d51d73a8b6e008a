use Rattle.std.proofs.Common.{rules}
use Rattle.net_text.proofs.Names.{new_names}
use Rattle.net_text.proofs.named_net.NamedNet.is_new.Goals as goal

pub returns-then-lacks : goal.returns-then-lacks
returns-then-lacks c = rw (← c.self.view_is, new_names c.self.inside.text.now c.self.inside.net.now c.args.name.now) (search rules)

pub returns-else-lacks : goal.returns-else-lacks
returns-else-lacks c = rw (← c.self.view_is, new_names c.self.inside.text.now c.self.inside.net.now c.args.name.now) (search rules)
