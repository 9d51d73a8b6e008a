-- What is said of a closure that is asked of the places below a number, in a search or a sum.
--   Gives post n f   what it gives of each number below n is what f says
use Rattle.std.specs.Prelude.{◌≡◌, ℕ, ◌<◌}

abbrev pub Gives : {A : Type 0} → (ℕ → A → Type 0) → ℕ → (ℕ → A) → Type 0
Gives {A} post n f = (p : ℕ) (a : A) → p < n → post p a → a ≡ f p
