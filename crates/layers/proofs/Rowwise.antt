-- A loop over the rows of a table that changes the tokens of each: value is what they become.
use Rattle.std.proofs.Common.{◌≡◌, ℕ, ◌<◌, ◌≤◌, List, length, get_or, sym, ap, ◌∙◌, ⊎_elim, arith}
use Rattle.std.proofs.lemmas.Bool.{cases_lt}
use Rattle.model.specs.Layer as model
use Rattle.model.specs.Layer.{blank, row_with}
use Rattle.layers.specs.declared.row.Row.{Row}
use Rattle.layers.specs.Rows.{row_of, nothing, rows_of}
use Rattle.layers.specs.Kept.{rows_past}

-- the row with its new tokens
abbrev pub settled : (model.Row → ℕ) → Row → Row
settled value row = record { raises = row.raises; free = value (row_of row); in_use = row.in_use }

-- the rows below i are changed, the others as they were
abbrev pub Changed : (model.Row → ℕ) → List Row → ℕ → List Row → Type 0
Changed value was i is = record {
  long : length is ≡ length was;
  done : (k : ℕ) → k < i → get_or is k nothing ≡ settled value (get_or was k nothing);
  rest : (k : ℕ) → i ≤ k → get_or is k nothing ≡ get_or was k nothing;
}

-- the row values after the loop; a missing row has no tokens before and after
pub all_changed : (value : model.Row → ℕ) (was is : List Row) (i : ℕ) → value blank ≡ 0 → length was ≤ i → Changed value was i is → rows_of is ≡ (λ r. row_with (rows_of was r) (value (rows_of was r)))
unfolding rows_of
all_changed value was is i none all c = λ j r. at r j
  where
    at : (r : ℕ) → rows_of is r ≡ row_with (rows_of was r) (value (rows_of was r))
    at r =
        ⊎_elim
        (λ l. ap row_of (c.done r l))
        (λ l. rows_past is r (omega (arith, c.long)) ∙ sym (ap (λ (x : model.Row). row_with x (value x)) (rows_past was r (omega arith)) ∙ ap (row_with blank) none))
        (cases_lt r i)
