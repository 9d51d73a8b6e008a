use Rattle.std.proofs.Common.{Bor, List, ℕ, ap, ◌∙◌}
use Rattle.formats.specs.NetText.{move_names}
use Rattle.panel.proofs.Names.{name_shown}
use Rattle.panel.proofs.said.Said.move_name.Goals as goal

pub returns : goal.returns
returns c = ap (λ (r : Bor (List ℕ)). r.now) c.unwrap_or.ensures ∙ name_shown (move_names c.args.self.now.net.now) c.args.t c.move_name.result _ c.move_name.ensures
