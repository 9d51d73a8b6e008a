-- The worked example, computed.
use Rattle.std.proofs.Common.{◌≡◌, false, [], ◌∷◌, Ok, Result, codes, refl, pos, ap, ◌∙◌}
use Rattle.std.specs.Fmt.{digits}
use Rattle.model.specs.Working.{rounds_from}
use Rattle.model.specs.Ledger.{Ledger, new_ledger}
use Rattle.model.specs.Layer.{monitor_answer}
use Rattle.formats.specs.Texts.{read_text}
use Rattle.formats.specs.Words.{lines}
use Rattle.formats.specs.declared.fault.TextFault.{TextFault}
use Rattle.formats.specs.NetText.{NetText, names, place_names}
use Rattle.formats.specs.ReadNet.{read_net}
use Rattle.formats.specs.RulesText.{RulesText, read_rules}
use Rattle.formats.specs.Sums.{read_sum}
use Rattle.formats.specs.Samples.{cell_net, plain_part}
use Rattle.texts.specs.Lines.{text_check}
use Rattle.panel.specs.Run.{by_net, by_rules}
use Rattle.panel.specs.Cells.{Cell, cell_of}
use Rattle.panel.specs.Orders.{answers, start_monitor, start_pile, ran_with, ran_on}
use Rattle.panel.specs.Example.{ExamplePrinted, example_net, example_rules, example_orders, example_print}

abbrev rules_said : RulesText
rules_said = record {
  fixed = record { name = codes "zone"; sum = plain_part false 1 ∷ []; bound = pos 2 };
  others = record { name = codes "keep"; sum = plain_part false 2 ∷ []; bound = pos 1 } ∷ [];
}

net_read : read_net example_net ≡ Ok cell_net
unfolding read_text
net_read = refl

rules_read : read_rules (names cell_net) (place_names cell_net) example_rules ≡ Ok rules_said
unfolding read_text read_sum
rules_read = refl

-- the cell, and the ledger of its pile
abbrev c : Cell
c = cell_of cell_net rules_said

fine : text_check example_orders ≡ Ok tt
fine = refl

set : monitor_answer (start_monitor c) c.typed_fixed ≡ Ok tt
unfolding rounds_from
set = refl

abbrev l : Ledger
l = new_ledger (start_pile c)

all_lines : answers c l (lines example_orders) ≡ example_print
unfolding rounds_from digits
all_lines = refl

pub example_printed : ExamplePrinted
example_printed =
    ap (λ (r : Result NetText TextFault). by_net r example_rules example_orders) net_read
    ∙ ap (λ (r : Result RulesText TextFault). by_rules cell_net r example_orders) rules_read
    ∙ ap (ran_on c example_orders) fine
    ∙ ap (ran_with c example_orders) set
    ∙ all_lines
