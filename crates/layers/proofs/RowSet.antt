-- A row that is set to a worked rule: its tokens, and the pile after it.
use Rattle.std.proofs.Common.{◌≡◌, ℕ, ◌<◌, ◌≤◌, T, List, get_or, ℤ, pos, ◌-ℤ◌, nat_abs, ◌≤ℤ◌, Ok, Result, sym, refl, ap, ◌∙◌, subst, arith}
use lib.Signed.{non_neg}
use Rattle.std.proofs.lemmas.Int.{ints}
use Rattle.model.specs.declared.fault.Fault.{Fault}
use Rattle.model.specs.Net.{Net, Ranges}
use Rattle.model.specs.Rule.{Rule, Worked, raise, positive, weighted_free}
use Rattle.model.specs.Sizes.{most_worked_weight, most_worked_bound, control_limit}
use Rattle.model.specs.Working.{work}
use Rattle.model.specs.Layer.{Row, Pile, row_count, holds_now, ruled_row, change_row, top_answer}
use Rattle.model.proofs.JustSet.{set_row}
use Rattle.model.proofs.Setting.{most_weighted, weighted_abs}
use Rattle.model.proofs.TopRow.{top_says, now_says}
use Rattle.layers.specs.Rows.{rule_row}
use Rattle.layers.specs.Setting.{SetTo}

-- ---- the tokens of the row: what is spare below the bound
pub spare_nonneg : (b x : ℤ) → x ≤ℤ b → T (non_neg (b -ℤ x))
spare_nonneg b x l = grind (arith, ints)

pub spare_is : (b x : ℤ) → x ≤ℤ b → nat_abs (b -ℤ x) ≡ positive (b -ℤ x)
spare_is b x l = grind (arith, ints)

-- a plant's tokens on ground places are at most the greatest limit
pub spare_small : (n : Net) (free : ℕ → ℕ) (w : Worked) → Ranges n → ((p : ℕ) → free p ≤ n.limit p) → ((p : ℕ) → nat_abs (w.weight p) ≤ most_worked_weight) → nat_abs w.bound ≤ most_worked_bound
    → nat_abs (w.bound -ℤ weighted_free n w.weight free) ≤ control_limit
spare_small n free w R within small few = diff w.bound (weighted_free n w.weight free) few (weighted_abs n w.weight (λ p. pos (free p)) R (λ p l. small p) (λ p l. omega (arith, within p, (R.ground_limit p l).1)))
  where
    diff : (b x : ℤ) → nat_abs b ≤ most_worked_bound → nat_abs x ≤ most_weighted → nat_abs (b -ℤ x) ≤ control_limit
    diff b x h k = omega (arith, ints)

module _ (p : Pile) (r : ℕ) (typed : Rule) (w : Worked) (ok : Ok tt ≡ top_answer p r typed) (is : work p.below typed ≡ Ok w) where
  pub holds_so : weighted_free p.below w.weight p.below_free ≤ℤ w.bound
  holds_so = now_says p.below p.below_free w (subst (λ (x : Result Worked Fault). holds_now p.below p.below_free x ≡ Ok tt) is (top_says p r typed (sym ok)).held_now)

  -- ---- the pile
  row_is : (raises : List ℤ) (free : ℕ) → ((t : ℕ) → get_or raises t (pos 0) ≡ raise p.below w.weight t) → free ≡ nat_abs (w.bound -ℤ weighted_free p.below w.weight p.below_free) → rule_row (λ t. get_or raises t (pos 0)) free ≡ ruled_row p.below p.below_free w
  row_is raises free value e =
      let tokens : free ≡ positive (w.bound -ℤ weighted_free p.below w.weight p.below_free) = e ∙ spare_is w.bound (weighted_free p.below w.weight p.below_free) holds_so in
      λ i. rule_row (λ t. value t i) (tokens i)

  pub set_to : Ranges p.below → r < row_count p.top → (raises : List ℤ) (free : ℕ) → ((t : ℕ) → get_or raises t (pos 0) ≡ raise p.below w.weight t) → free ≡ nat_abs (w.bound -ℤ weighted_free p.below w.weight p.below_free)
      → (rows : ℕ → Row) → rows ≡ change_row p.rows r (rule_row (λ t. get_or raises t (pos 0)) free) → SetTo p (record { top = p.top; below = p.below; below_free = p.below_free; rows = rows }) r typed
  set_to R here raises free value e rows after =
      subst (λ (f : ℕ → Row). SetTo p (record { top = p.top; below = p.below; below_free = p.below_free; rows = f }) r typed)
      (sym (after ∙ ap (change_row p.rows r) (row_is raises free value e)))
      (record { worked = w; works = is; pile = refl; row = set_row p R r here typed w (sym ok) is })
