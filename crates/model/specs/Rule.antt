-- Rules: no marking m of the ground places may have a weighted sum L·m above the bound b.
--   Rule            a rule as it is typed: weights and a bound
--   Worked          a rule as it is worked: weights, a bound, and how many rounds changed it
--   weighted        L·m over the ground places, of a signed marking
--   weighted_free   the same of tokens
--   raise           by how much a move raises L·m
--   positive        max(0, z); negative: max(0, −z)
--   all_below       whether a test holds of each number below k
--   in_range        whether weights and bound are at most so large, by their size
use Rattle.std.specs.Prelude.{ℕ, zero, suc, Bool, true, ◌&&◌, leb, ℤ, pos, negsuc, ◌*ℤ◌, nat_le, unsigned_abs}
use Rattle.model.specs.Net.{Net, signed_sum, incidence}

pub record Rule : Type 0 where
  pub weight : ℕ → ℤ
  pub bound : ℤ

pub record Worked : Type 0 where
  pub weight : ℕ → ℤ
  pub bound : ℤ
  pub rounds : ℕ

abbrev pub weighted : Net → (ℕ → ℤ) → (ℕ → ℤ) → ℤ
weighted n l m = signed_sum n.ground_places (λ p. l p *ℤ m p)

abbrev pub weighted_free : Net → (ℕ → ℤ) → (ℕ → ℕ) → ℤ
weighted_free n l free = weighted n l (λ p. pos (free p))

abbrev pub raise : Net → (ℕ → ℤ) → ℕ → ℤ
raise n l t = signed_sum n.ground_places (λ p. l p *ℤ incidence n p t)

abbrev pub positive : ℤ → ℕ
positive (pos k) = k
positive (negsuc k) = 0

abbrev pub negative : ℤ → ℕ
negative (pos k) = 0
negative (negsuc k) = suc k

abbrev pub all_below : (ℕ → Bool) → ℕ → Bool
all_below f zero = true
all_below f (suc k) = all_below f k && f k

abbrev pub in_range : ℕ → ℕ → Net → (ℕ → ℤ) → ℤ → Bool
in_range most_w most_b n l b = all_below (λ p. leb (unsigned_abs (l p)) most_w) n.ground_places && nat_le (unsigned_abs b) most_b
