-- A new layer: what its pile is.
use Rattle.std.proofs.Common.{◌≡◌, ℕ, sym, refl, subst}
use Rattle.model.specs.Net.{Net}
use Rattle.model.specs.Layer.{Row, blank, Top, row_count}
use Rattle.model.proofs.LayerCalls.{new_rows, above_all}
use Rattle.layers.specs.Piles.{rows_if_open, Fresh}
use Rattle.layers.specs.Shut.{blank_rows}

pub fresh : (top : Top) (n : Net) (free : ℕ → ℕ) (rows : ℕ → Row) → rows ≡ (λ r. blank) →
    Fresh top n free (record { top = top; below = n; below_free = free; rows = rows_if_open (row_count top) n rows })
fresh top n free rows e = subst (λ (f : ℕ → Row). Fresh top n free (record { top = top; below = n; below_free = free; rows = f })) (sym (blank_rows (row_count top) n rows e)) (record {
  pile = refl;
  rows = λ k clear l. new_rows (row_count top) n free k clear l;
  above = (above_all n.places n.layer).0;
  least = (above_all n.places n.layer).1;
})
