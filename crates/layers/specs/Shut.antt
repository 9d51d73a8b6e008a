-- A shut layer shows nothing of its rows, so that they count as blank.
use Rattle.std.proofs.Common.{◌≡◌, ℕ, ◌-◌, Bool, true, false, cond, not, ◌&&◌, sym, refl, ap, ◌∙◌}
use Rattle.model.specs.Net.{Net}
use Rattle.model.specs.Layer.{Row, is_shut, own_place, layer_net, layer_free, change_row}
use Rattle.model.proofs.Blank.{no_rows}
use Rattle.model.proofs.Layering.{open_net}
use Rattle.layers.specs.Piles.{rows_if_open}

module _ (size : ℕ) (n : Net) (rows : ℕ → Row) where
  pub same_net : layer_net size n (rows_if_open size n rows) ≡ layer_net size n rows
  same_net = go (is_shut size n)
    where
      go : (b : Bool) → cond b n (open_net size n (cond b no_rows rows)) ≡ cond b n (open_net size n rows)
      go true = refl
      go false = refl

  pub same_free : (free : ℕ → ℕ) → layer_free size n free (rows_if_open size n rows) ≡ layer_free size n free rows
  same_free free = λ i p. at p (is_shut size n) i
    where
      at : (p : ℕ) (b : Bool) → cond (not b && own_place size n p) (cond b no_rows rows (p - n.places)).free (free p) ≡ cond (not b && own_place size n p) (rows (p - n.places)).free (free p)
      at p true = refl
      at p false = refl

  rows_open : is_shut size n ≡ false → rows_if_open size n rows ≡ rows
  rows_open e = ap (λ (b : Bool). cond b no_rows rows) e

  pub changed_rows : (r : ℕ) (new : Row) (after : ℕ → Row) → is_shut size n ≡ false → after ≡ change_row rows r new → rows_if_open size n after ≡ change_row (rows_if_open size n rows) r new
  changed_rows r new after e changed = ap (λ (b : Bool). cond b no_rows after) e ∙ changed ∙ ap (λ (f : ℕ → Row). change_row f r new) (sym (rows_open e))

  pub row_unused : (r : ℕ) → is_shut size n ≡ false → (rows r).in_use ≡ false → (rows_if_open size n rows r).in_use ≡ false
  row_unused r e unused = ap (λ (f : ℕ → Row). (f r).in_use) (rows_open e) ∙ unused

  pub blank_rows : rows ≡ no_rows → rows_if_open size n rows ≡ no_rows
  blank_rows e = go (is_shut size n)
    where
      go : (b : Bool) → cond b no_rows rows ≡ no_rows
      go true = refl
      go false = e
