-- Blank rows stay blank, whatever moves.
use Rattle.std.proofs.Common.{◌≡◌, ℕ, arith}
use mathlib.Core.Path.{fun_ext}
use Rattle.model.specs.Net.{Net}
use Rattle.model.specs.Layer.{Row, blank, rows_begun, rows_finished, rows_gone_back}

abbrev pub no_rows : ℕ → Row
no_rows r = blank

module _ (n : Net) (rows : ℕ → Row) (t : ℕ) (blanks : (r : ℕ) → rows r ≡ blank) where
  pub blank_begun : rows_begun n rows t ≡ rows
  blank_begun = fun_ext (λ r. grind (arith, blanks r))

  pub blank_finished : rows_finished n rows t ≡ rows
  blank_finished = fun_ext (λ r. grind (arith, blanks r))

  pub blank_gone_back : rows_gone_back n rows t ≡ rows
  blank_gone_back = fun_ext (λ r. grind (arith, blanks r))
