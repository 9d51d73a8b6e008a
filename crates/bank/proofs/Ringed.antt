-- The net of a bank is that of machines.
use Rattle.std.proofs.Common.{◌≡◌, ℕ, ◌+◌, ◌*◌, ◌%◌, ◌<◌, ◌≢◌, Bool, refl, arith}
use Rattle.std.proofs.lemmas.Bool.Decides.{nat_tests}
use Rattle.bank.specs.Banks.{next_place, arc, bank_net}
use Rattle.bank.specs.Machines.{Machines}
use Rattle.bank.specs.Ranging.{next_inside, limit_of, arc_no_move}

next_is : (i j : ℕ) → j < 4 → next_place (4 * i + j) ≡ 4 * i + (j + 1) % 4
next_is i j h = omega arith

arc_there : (n p t : ℕ) → p < n → t < n → arc n p t p ≡ 1
arc_there n p t h l = grind (arith, nat_tests)

arc_elsewhere : (n p t q : ℕ) → (p ≢ q) → arc n p t q ≡ 0
arc_elsewhere n p t q h = grind (arith, nat_tests)

pub bank_machines : (n : ℕ) (c : ℕ → Bool) → n % 4 ≡ 0 → Machines (bank_net n c)
bank_machines n c whole = record {
  whole = whole;
  ground = refl;
  moves = refl;
  limits = limit_of n;
  takes = λ i j h l. arc_there n (4 * i + j) (4 * i + j) l l;
  gives = λ i j h l. rw (next_is i j h) (arc_there n (4 * i + (j + 1) % 4) (4 * i + j) (omega (arith, next_is i j h, next_inside n (4 * i + j) whole l)) l);
  takes_nowhere_else = λ i j p h ne. arc_elsewhere n p (4 * i + j) (4 * i + j) ne;
  gives_nowhere_else = λ i j p h ne. rw (next_is i j h) (arc_elsewhere n p (4 * i + j) (4 * i + (j + 1) % 4) ne);
  no_move = λ p t h. (arc_no_move n p t t h, arc_no_move n p t (next_place t) h);
}
