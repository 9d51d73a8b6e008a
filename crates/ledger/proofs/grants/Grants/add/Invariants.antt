use Rattle.std.proofs.Common.{◌≡◌, ℕ, ◌+◌, ◌<◌, ◌≤◌, max, slice_index}
use Rattle.ledger.proofs.grants.Grants.add.Given as goal

abbrev pub invariant-places : goal.invariant-places
invariant-places g l = record {
  done : (k : ℕ) → k < l.p → slice_index l.reserved-items k ≡ slice_index l.fn.self.reserved k + max ((g.N.Net.net l.net).take k l.t) ((g.N.Net.net l.net).give k l.t);
  rest : (k : ℕ) → l.p ≤ k → k < l.places → slice_index l.reserved-items k ≡ slice_index l.fn.self.reserved k;
}
