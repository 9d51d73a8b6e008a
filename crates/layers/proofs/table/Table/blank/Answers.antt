use Rattle.std.proofs.Common.{ℕ, sym, subst}
use Rattle.model.specs.Layer as model
use Rattle.layers.specs.Kept.{Kept, kept_blank, rows_blank}
use Rattle.layers.proofs.table.Table.blank.Goals as goal

pub invariant_of-result-clause-kept : goal.invariant_of-result-clause-kept
invariant_of-result-clause-kept g c = λ r.
    subst (λ (rows : ℕ → model.Row). Kept (rows r)) (sym (rows_blank g.row.N c.blank.result c.blank.ensures)) kept_blank
