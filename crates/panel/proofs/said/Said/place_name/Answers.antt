use Rattle.std.proofs.Common.{Bor, List, ℕ, ap, ◌∙◌}
use Rattle.panel.specs.Cells.{pile_names}
use Rattle.panel.specs.Said.{cell_said}
use Rattle.panel.proofs.Names.{name_shown}
use Rattle.panel.proofs.said.Said.place_name.Goals as goal

pub returns : goal.returns
returns c = ap (λ (r : Bor (List ℕ)). r.now) c.unwrap_or.ensures ∙ name_shown (pile_names (cell_said c.args.self.now)) c.args.p c.place_name.result _ c.place_name.ensures
