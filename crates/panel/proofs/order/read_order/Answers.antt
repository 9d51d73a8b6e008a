use Rattle.std.proofs.Common.{rules}
use Rattle.panel.proofs.Shapes.{three_fields}
use Rattle.panel.proofs.order.read_order.Goals as goal

pub returns-in-Some : goal.returns-in-Some
returns-in-Some c = search (rules, three_fields)
