-- The first row of a table that passes a test, as the lowest of their numbers.
use Rattle.std.proofs.Common.{◌≡◌, ℕ, suc, ◌+◌, ◌<◌, Bool, cond, List, [], ◌∷◌, length, get_or, Some, Option, refl, sym, ap, ap₂, ◌∙◌, add-one, arith}
use Rattle.std.specs.List.{position, position_from}
use Rattle.std.proofs.lemmas.Iterator.Adapters.{position_from-zero}
use Rattle.model.specs.Layer as model
use Rattle.model.specs.Plant.{lowest}
use Rattle.layers.specs.declared.row.Row.{Row}
use Rattle.layers.specs.Rows.{row_of, nothing, rows_of}

from_here : (test : Row → Bool) (f : ℕ → Bool) (i : ℕ) (rows : List Row) → ((k : ℕ) → k < length rows → f (i + k) ≡ test (get_or rows k nothing)) → position_from test i rows ≡ lowest f i (length rows)
from_here test f i [] tells = refl
from_here test f i (row ∷ rows) tells =
    ap₂ (λ (b : Bool) (o : Option ℕ). cond b (Some i) o)
    (sym (tells 0 (omega arith)) ∙ ap f (omega arith))
    (ap (λ (j : ℕ). position_from test j rows) (add-one i) ∙ from_here test f (suc i) rows (λ k l. ap f (omega arith) ∙ tells (suc k) (omega arith)))

pub first_is_lowest : (test : model.Row → Bool) (rows : List Row) (n : ℕ) → length rows ≡ n → position (λ row. test (row_of row)) rows ≡ lowest (λ r. test (rows_of rows r)) 0 n
unfolding rows_of
first_is_lowest test rows n e =
    position_from-zero (λ row. test (row_of row)) rows
    ∙ from_here (λ row. test (row_of row)) (λ r. test (rows_of rows r)) 0 rows (λ k l. ap (λ (r : ℕ). test (rows_of rows r)) (omega arith))
    ∙ ap (lowest (λ r. test (rows_of rows r)) 0) e
