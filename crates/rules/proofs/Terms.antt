-- The terms of a weighted sum over the ground places, and that neither they nor their sums are too large for the code.
use Rattle.std.proofs.Common.{SFits, w32, ℕ, ◌*◌, ◌^◌, ◌<◌, ◌≤◌, ℤ, pos, ◌-ℤ◌, ◌*ℤ◌, nat_abs, arith}
use Rattle.std.proofs.lemmas.Int.{ints}
use Rattle.model.specs.Sizes.{most_places, most_arc, most_limit, most_worked_weight}
use Rattle.model.specs.Net.{Net, Ranges, signed_sum, incidence}
use Rattle.model.proofs.Sums.{abs_mul_le, signed_sum_abs}

-- a weight times the tokens of a place, or times what a move changes there, which is less
abbrev pub most_term : ℕ
most_term = most_worked_weight * most_limit

-- a product of two numbers that are small enough for it
pub product_fits : (a b : ℤ) (m k : ℕ) → m * k < 2 ^ 31 → nat_abs a ≤ m → nat_abs b ≤ k → SFits w32 (a *ℤ b)
product_fits a b m k room h l = fits (a *ℤ b) (omega (arith, abs_mul_le a b m k h l))
  where
    fits : (z : ℤ) → nat_abs z < 2 ^ 31 → SFits w32 z
    fits z h = omega (arith, ints)

pub incidence_small : (n : Net) → Ranges n → (p t : ℕ) → p < n.ground_places → nat_abs (incidence n p t) ≤ most_arc
incidence_small n s p t l = small (n.give p t) (n.take p t) (s.ground_arcs p t l).1 (s.ground_arcs p t l).0
  where
    small : (a b : ℕ) → a ≤ most_arc → b ≤ most_arc → nat_abs (pos a -ℤ pos b) ≤ most_arc
    small a b h k = omega (arith, ints)

-- a weighted sum over the ground places, of what each changes by or holds
module _ (w x : ℕ → ℤ) (weights : (p : ℕ) → nat_abs (w p) ≤ most_worked_weight) (ground_places : ℕ) (few : ground_places ≤ most_places)
    (each : (p : ℕ) → p < ground_places → nat_abs (x p) ≤ most_limit) where
  term_small : (p : ℕ) → p < ground_places → nat_abs (w p *ℤ x p) ≤ most_term
  term_small p l = abs_mul_le (w p) (x p) most_worked_weight most_limit (weights p) (each p l)

  pub sum_small : (p : ℕ) → p ≤ ground_places → nat_abs (signed_sum p (λ q. w q *ℤ x q)) ≤ most_places * most_term
  sum_small p l = omega (arith, signed_sum_abs p most_term (λ q. w q *ℤ x q) (λ q h. term_small q (omega arith)))
