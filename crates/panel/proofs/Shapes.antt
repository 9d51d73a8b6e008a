-- A line of three fields or more is no order.
use Rattle.std.proofs.Common.{◌≡◌, ℕ, List, ◌∷◌, ap}
use Rattle.formats.specs.Words.{fields}
use Rattle.formats.proofs.Pieces.{fields_some}
use Rattle.panel.specs.Cells.{Cell}
use Rattle.panel.specs.Orders.{order_of, no_shape}

pub three_fields : (c : Cell) (w n r : List ℕ) → order_of c (w ∷ n ∷ fields r) ≡ no_shape
three_fields c w n r = let s = fields_some r in ap (λ (fs : List (List ℕ)). order_of c (w ∷ n ∷ fs)) s.2
