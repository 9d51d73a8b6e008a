-- Common divisors.
--   GreatestDivisor   h divides a and e, and every number that divides both divides h; of 0 and 0 it is 0
use Rattle.std.specs.Prelude.{ℕ}
use Rattle.std.specs.Int.{◌∣◌}

pub record GreatestDivisor (a e h : ℕ) : Type 0 where
  pub of_a : h ∣ a
  pub of_e : h ∣ e
  pub most : (d : ℕ) → d ∣ a → d ∣ e → d ∣ h
