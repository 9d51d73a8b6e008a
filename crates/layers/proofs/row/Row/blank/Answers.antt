use Rattle.std.proofs.Common.{◌≡◌, ℕ, zero, suc, false, ℤ, pos, get_or, replicate, refl}
use Rattle.model.specs.Rule.{positive, negative}
use Rattle.model.specs.Sizes.{most_moves}
use Rattle.layers.proofs.row.Row.blank.Goals as goal

no_raise : (n t : ℕ) → ◌≡◌ {A = ℤ} (get_or (replicate n (pos 0)) t (pos 0)) (pos 0)
no_raise zero t = refl
no_raise (suc n) zero = refl
no_raise (suc n) (suc t) = no_raise n t

pub returns : goal.returns
returns c = λ i. record { take = λ t. positive (no_raise most_moves t i); give = λ t. negative (no_raise most_moves t i); free = 0; in_use = false }
