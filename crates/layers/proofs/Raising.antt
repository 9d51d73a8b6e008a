-- By how much each move raises a worked rule, and what a row has that is set to it.
use Rattle.std.proofs.Common.{◌≡◌, ℕ, ◌<◌, ◌≤◌, List, length, get_or, ℤ, pos, nat_abs, sym, ap, ◌∙◌, ⊎_elim, arith}
use Rattle.std.proofs.lemmas.List.{get_or_past}
use Rattle.std.proofs.lemmas.Bool.{cases_lt}
use Rattle.model.specs.Net.{Net, Ranges}
use Rattle.model.specs.Rule.{raise}
use Rattle.model.specs.Sizes.{most_moves, most_worked_weight, most_control_arc}
use Rattle.model.proofs.Setting.{raise_abs, raise_none}

module _ (n : Net) (weight : ℕ → ℤ) (R : Ranges n) (raises : List ℤ) where
  -- a missing move raises nothing
  pub raised_all : length raises ≡ most_moves → ((t : ℕ) → t < most_moves → get_or raises t (pos 0) ≡ raise n weight t) → (t : ℕ) → get_or raises t (pos 0) ≡ raise n weight t
  raised_all all found t =
      ⊎_elim
      (found t)
      (λ l. get_or_past raises t (pos 0) (omega arith) ∙ sym (raise_none n weight R t (omega (arith, R.moves_few))))
      (cases_lt t most_moves)

  pub raised_small : ((p : ℕ) → nat_abs (weight p) ≤ most_worked_weight) → ((t : ℕ) → get_or raises t (pos 0) ≡ raise n weight t) → (t : ℕ) → nat_abs (get_or raises t (pos 0)) ≤ most_control_arc
  raised_small small is t = omega (arith, ap nat_abs (is t), raise_abs n weight R (λ p l. small p) t)
