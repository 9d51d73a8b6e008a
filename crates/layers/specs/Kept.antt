-- What no row in a monitor or a board is without, and that each change of one keeps it.
use Rattle.std.specs.Prelude.{◌≡◌, ℕ, zero, suc, ◌<◌, ◌≤◌, Bool, true, false, cond, List, [], ◌∷◌, length, replicate, ℤ, ◌==◌, ◌≢◌, slice_set, unsigned_abs, refl}
use Rattle.std.proofs.Common.{ap, sym, ◌∙◌, subst, ⊎_elim, arith}
use Rattle.std.proofs.lemmas.List.{get_or_past, get_or-replicate, get_or-set_same, get_or-set_other, length-replicate}
use Rattle.std.proofs.lemmas.Bool.{cases_eq, cases_lt, cond-true, cond-false, cond_both, eq-eqb, ne_eqb}
use Rattle.std.proofs.lemmas.Int.{ints}
use Rattle.model.specs.Layer as model
use Rattle.model.specs.Layer.{blank, row_with, change_row, monitor, board, row_count}
use Rattle.model.specs.Sizes.{monitor_rows, board_rows, control_limit, most_control_arc}
use Rattle.layers.specs.declared.row.Row.{Row}
use Rattle.layers.specs.Rows.{row_of, nothing, rows_of, only, rule_row, top_of}

pub record Kept (x : model.Row) : Type 0 where
  pub one_way : (t : ℕ) → 0 < x.take t → x.give t ≡ 0
  pub low : x.free ≤ control_limit
  pub small_takes : (t : ℕ) → x.take t ≤ most_control_arc
  pub small_gives : (t : ℕ) → x.give t ≤ most_control_arc

pub kept_blank : Kept blank
kept_blank = record { one_way = λ t l. refl; low = omega arith; small_takes = λ t. omega arith; small_gives = λ t. omega arith }

pub kept_free : (x : model.Row) (free : ℕ) → free ≤ control_limit → Kept x → Kept (row_with x free)
kept_free x free l k = record { one_way = k.one_way; low = l; small_takes = k.small_takes; small_gives = k.small_gives }

pub kept_rule : (raises : ℕ → ℤ) (free : ℕ) → free ≤ control_limit → ((t : ℕ) → unsigned_abs (raises t) ≤ most_control_arc) → Kept (rule_row raises free)
kept_rule raises free l small = record { one_way = λ t h. grind (arith, ints); low = l; small_takes = λ t. grind (arith, ints, small t); small_gives = λ t. grind (arith, ints, small t) }

-- ---- one row of a table
pub rows_set : (rows : List Row) (r : ℕ) (x : Row) → r < length rows → rows_of (slice_set rows r x) ≡ change_row (rows_of rows) r (row_of x)
unfolding rows_of
rows_set rows r x l = λ j i. at i j
  where
    at : (i : ℕ) → rows_of (slice_set rows r x) i ≡ cond (i == r) (row_of x) (rows_of rows i)
    at i = ⊎_elim
        (λ (e : i ≡ r). rw e (rw get_or-set_same (sym (cond-true (r == r) (row_of x) (rows_of rows r) (eq-eqb r r refl)))))
        (λ (ne : i ≢ r). rw get_or-set_other (sym (cond-false (i == r) (row_of x) (rows_of rows i) (ne_eqb i r ne))))
        (cases_eq i r)

pub kept_change : (rows : ℕ → model.Row) (r : ℕ) (new : model.Row) → ((i : ℕ) → Kept (rows i)) → Kept new → (i : ℕ) → Kept (change_row rows r new i)
kept_change rows r new all here i = cond_both (i == r) new (rows i) Kept (λ e. here) (λ e. all i)

pub rows_past : (rows : List Row) (r : ℕ) → length rows ≤ r → rows_of rows r ≡ blank
unfolding rows_of
rows_past rows r l = ap row_of (get_or_past rows r nothing l)

-- ---- the one row of a monitor
pub only_rows : (row : Row) → rows_of (row ∷ []) ≡ only row
unfolding rows_of
only_rows row = λ j r. at r j
  where
    at : (r : ℕ) → rows_of (row ∷ []) r ≡ only row r
    at zero = refl
    at (suc r) = sym (cond-false (suc r == 0) (row_of row) blank (ne_eqb (suc r) 0 (λ e. omega arith)))

pub only_first : (row : Row) (r : ℕ) → r < 1 → only row r ≡ row_of row
only_first row r l = cond-true (r == 0) (row_of row) blank (eq-eqb r 0 (omega arith))

pub only_change : (row new : Row) (r : ℕ) (x : model.Row) → r < 1 → row_of new ≡ x → only new ≡ change_row (only row) r x
only_change row new r x l e = subst (λ (k : ℕ). only new ≡ change_row (only row) k x) (sym first) (λ j i. at (i == 0) i j)
  where
    first : r ≡ 0
    first = omega arith

    at : (b : Bool) (i : ℕ) → cond b (row_of new) blank ≡ cond b x (cond b (row_of row) blank)
    at true i = e
    at false i = refl

-- ---- new rows
pub only_blank : (row : Row) → row_of row ≡ blank → only row ≡ (λ r. blank)
only_blank row e = λ j r. at (r == 0) j
  where
    at : (b : Bool) → cond b (row_of row) blank ≡ blank
    at true = e
    at false = refl

pub rows_blank : (n : ℕ) (row : Row) → row_of row ≡ blank → rows_of (replicate n row) ≡ (λ r. blank)
unfolding rows_of
rows_blank n row e = λ j r. at r j
  where
    at : (r : ℕ) → rows_of (replicate n row) r ≡ blank
    at r = ⊎_elim
        (λ l. ap row_of (get_or-replicate n r row nothing l) ∙ e)
        (λ l. rows_past (replicate n row) r (omega (arith, length-replicate n row)))
        (cases_lt r n)

-- ---- how many rows a table has
pub top_some : (n : ℕ) → 1 ≤ row_count (top_of n)
top_some n = cond_both (n == monitor_rows) monitor board (λ t. 1 ≤ row_count t) (λ e. omega arith) (λ e. omega arith)

pub top_few : (n : ℕ) → row_count (top_of n) ≤ board_rows
top_few n = cond_both (n == monitor_rows) monitor board (λ t. row_count t ≤ board_rows) (λ e. omega arith) (λ e. omega arith)
