use Rattle.std.proofs.Common.{◌≡◌, ℕ, ◌<◌, ◌≤◌, length, get_or, pos, ◌*ℤ◌}
use Rattle.rules.proofs.worked.WorkedRule.scaled.Given as goal

-- the weights below the index are scaled, the others as they were
abbrev pub invariant-places : goal.invariant-places
invariant-places l = record {
  long : length l.weight-items ≡ 32;
  done : (q : ℕ) → q < l.weight-index → get_or l.weight-items q (pos 0) ≡ l.factor *ℤ get_or l.self.weights q (pos 0);
  rest : (q : ℕ) → l.weight-index ≤ q → get_or l.weight-items q (pos 0) ≡ get_or l.self.weights q (pos 0);
}
