-- What the program prints for its three texts.
--   by_rules         what is printed for a net, by what reading the rules answers
--   by_net           what is printed, by what reading the net answers
--   printed          what the program prints: a line that refuses the net, the rules, the orders or the fixed rule, in this order; or a
--                    line for each order
use Rattle.std.specs.Prelude.{ℕ, List, Ok, Err, Result, codes}
use Rattle.formats.specs.declared.fault.TextFault.{TextFault}
use Rattle.formats.specs.NetText.{NetText, names, place_names}
use Rattle.formats.specs.ReadNet.{read_net}
use Rattle.formats.specs.RulesText.{RulesText, read_rules}
use Rattle.panel.specs.Prints.{bad_line}
use Rattle.panel.specs.Cells.{cell_of}
use Rattle.panel.specs.Orders.{ran}

abbrev pub by_rules : NetText → Result RulesText TextFault → List ℕ → List ℕ
by_rules x (Err f) orders = bad_line (codes "rules") f
by_rules x (Ok y) orders = ran (cell_of x y) orders

abbrev pub by_net : Result NetText TextFault → List ℕ → List ℕ → List ℕ
by_net (Err f) rules orders = bad_line (codes "net") f
by_net (Ok x) rules orders = by_rules x (read_rules (names x) (place_names x) rules) orders

abbrev pub printed : List ℕ → List ℕ → List ℕ → List ℕ
printed net rules orders = by_net (read_net net) rules orders
