use Rattle.std.proofs.Common.{◌≡◌, ℕ, List, ◌++◌, map, vec_items}
use Rattle.formats.specs.Words.{lines}
use Rattle.layers.specs.Piles.{board_pile}
use Rattle.ledger.specs.Ledgers.{ledger_of}
use Rattle.texts.specs.declared.at.At.{At}
use Rattle.texts.specs.Walking.{lines_left}
use Rattle.panel.specs.Orders.{answers}
use Rattle.panel.specs.Said.{cell_said}
use Rattle.panel.proofs.obey.obey_all.Given as goal

abbrev pub invariant-loop-line : goal.invariant-loop-line
invariant-loop-line g l = vec_items l.out ++ answers (cell_said l.said) (ledger_of (board_pile g.P.Net.net g.P.Plant.tokens l.ledger.pile) l.ledger.grants) (map (λ (x : At × List ℕ). x.1) (lines_left l.line-iterator)) ≡ vec_items l.initial.out ++ answers (cell_said l.said) (ledger_of (board_pile g.P.Net.net g.P.Plant.tokens l.initial.ledger.pile) l.initial.ledger.grants) (lines l.orders)
