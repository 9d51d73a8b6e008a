use Rattle.std.proofs.Common.{rules}
use Rattle.net_text.proofs.Joining.{marked}
use Rattle.net_text.proofs.joined.Joined.add.Goals as goal

pub returns : goal.returns
returns c = λ p t h. marked c.args.self.now.pairs c.args.place c.args.transition p t c.requires.0 h (search rules)
