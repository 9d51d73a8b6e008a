-- The net of a line flows as a line does.
use Rattle.std.proofs.Common.{ℕ, ◌≤◌, Bool, refl, arith}
use Rattle.std.proofs.lemmas.Bool.Decides.{nat_tests}
use Rattle.line.specs.Lines.{line_net}
use Rattle.line.specs.Flows.{Flows}

module _ (k : ℕ) (limits : ℕ → ℕ) (letters : ℕ → Bool) where
  abbrev taken : ℕ → ℕ → ℕ
  taken = (line_net k limits letters).take

  abbrev given : ℕ → ℕ → ℕ
  given = (line_net k limits letters).give

  pub line_flows : 1 ≤ k → Flows (line_net k limits letters)
  line_flows some = record {
    some = some;
    ground = refl;
    moves = refl;
    brings = grind (arith, nat_tests);
    takes_none = λ p. grind (arith, nat_tests);
    passes = λ i h l. (grind (arith, nat_tests), grind (arith, nat_tests));
    removes = grind (arith, nat_tests);
    gives_none = λ p. grind (arith, nat_tests);
    takes_nowhere_else = λ i p h ne. grind (arith, nat_tests);
    gives_nowhere_else = λ i p ne. grind (arith, nat_tests);
    no_move = λ p t h. (grind (arith, nat_tests), grind (arith, nat_tests));
  }
