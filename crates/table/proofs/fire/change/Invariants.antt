use Rattle.std.proofs.Common.{◌≡◌, ℕ, ◌<◌, ◌≤◌, slice_index}
use Rattle.table.specs.Cells.{cell}
use Rattle.table.proofs.fire.change.Given as goal

abbrev pub invariant-places : goal.invariant-places
invariant-places g l = record {
  done : (k : ℕ) → k < l.p → goal.F-post g l.made (cell l.arcs k l.t) (slice_index l.fn.tokens k) (slice_index l.tokens-items k);
  rest : (k : ℕ) → l.p ≤ k → k < l.n → slice_index l.tokens-items k ≡ slice_index l.fn.tokens k;
}
