-- What is asked of a closure that gives a number of each place, which a weighted sum multiplies by the weight.
--   Limited post n   the numbers that it gives of the places below n are no larger than a limit
use Rattle.std.specs.Prelude.{ℕ, ◌<◌, ◌≤◌, ℤ, unsigned_abs}
use Rattle.model.specs.Sizes.{most_limit}

abbrev pub Limited : (ℕ → ℤ → Type 0) → ℕ → Type 0
Limited post n = (p : ℕ) (z : ℤ) → p < n → post p z → unsigned_abs z ≤ most_limit
