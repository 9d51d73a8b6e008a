-- What is read of an order line.
--   asked            the order that a read order stands for
--   order_said       the order that a line is of which this is read: a read order, or the refusal of a line that is none; nothing where
--                    no line is refused so
use Rattle.std.specs.Prelude.{Some, None, Ok, Err, Option, Result}
use Rattle.model.specs.declared.refusal.Refusal.{Refusal}
use Rattle.model.specs.declared.refusal.Refusal.TheVariants.{NoRecord, NameUnknown}
use Rattle.ledger.specs.Calls.{call_of}
use Rattle.panel.specs.declared.order.Order.{Order}
use Rattle.panel.specs.declared.order.Order.TheVariants.{Make, Show}
use Rattle.panel.specs.Orders as said

abbrev pub asked : Order → said.Order
asked (Make k) = said.a_call (call_of k)
asked (Show p) = said.a_show p

abbrev pub order_said : Result Order Refusal → Option said.Order
order_said (Ok o) = Some (asked o)
order_said (Err NoRecord) = Some said.no_shape
order_said (Err NameUnknown) = Some said.no_name
order_said (Err _) = None
