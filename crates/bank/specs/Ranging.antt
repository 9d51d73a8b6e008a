-- The ranges of a bank's net, and of its tokens.
use Rattle.std.specs.Prelude.{◌≡◌, ℕ, ◌%◌, ◌^◌, ◌<◌, ◌≤◌, Bool, cond, ◌&&◌, nat_lt, refl}
use Rattle.std.proofs.Common.{ap, ⊎_elim, arith}
use Rattle.std.proofs.lemmas.Bool.Decides.{nat_tests}
use Rattle.std.proofs.lemmas.Bool.{cases_lt, cond-true, cond-false, lt-ltb, le-ltb}
use Rattle.model.specs.Net.{Ranges}
use Rattle.model.specs.Sizes.{most_places}
use Rattle.bank.specs.Banks.{bit, next_place, arc, bank_net}
use Rattle.bank.specs.Words.{bit_beyond}

pub next_inside : (n t : ℕ) → n % 4 ≡ 0 → t < n → next_place t < n
next_inside n t whole lt = omega arith

arc_most : (n p t q : ℕ) → arc n p t q ≤ 1
arc_most n p t q = grind (arith, nat_tests)

arc_no_place : (n p t q : ℕ) → n ≤ p → arc n p t q ≡ 0
arc_no_place n p t q h = grind (arith, nat_tests)

pub arc_no_move : (n p t q : ℕ) → n ≤ t → arc n p t q ≡ 0
arc_no_move n p t q h = grind (arith, nat_tests)

pub limit_of : (n p : ℕ) → p < n → ◌≡◌ {A = ℕ} (cond (nat_lt p n) 1 0) 1
limit_of n p h = cond-true _ _ _ (lt-ltb p n h)

pub limit_none : (n p : ℕ) → n ≤ p → ◌≡◌ {A = ℕ} (cond (nat_lt p n) 1 0) 0
limit_none n p h = cond-false _ _ _ (le-ltb p n h)

pub bank_ranges : (n : ℕ) (c : ℕ → Bool) → 4 ≤ n → n ≤ most_places → Ranges (bank_net n c)
bank_ranges n c some few = record {
  ground_some = omega arith;
  ground_few = few;
  places_all = omega arith;
  places_few = omega arith;
  moves_some = omega arith;
  moves_few = few;
  ground_arcs = λ p t _. (omega (arith, arc_most n p t t), omega (arith, arc_most n p t (next_place t)));
  ground_limit = λ p h. (omega (arith, limit_of n p h), omega (arith, limit_of n p h));
  ground_plain = λ _ _. (refl, refl);
  control_arcs = λ p t h. (omega (arith, arc_no_place n p t t h), omega (arith, arc_no_place n p t (next_place t) h));
  control_limited = λ p h l. absurd (omega arith);
  control_free = λ p t h _. arc_no_place n p t t h;
  no_place = λ p t h. (arc_no_place n p t t h, arc_no_place n p t (next_place t) h, limit_none n p h, refl, refl);
  no_move = λ p t h. (arc_no_move n p t t h, arc_no_move n p t (next_place t) h, ap (λ (b : Bool). b && c t) (le-ltb t n h));
}

pub tokens_within : (n w p : ℕ) → w < 2 ^ n → bit w p ≤ cond (nat_lt p n) 1 0
tokens_within n w p inside =
    ⊎_elim (λ h. omega (arith, limit_of n p h)) (λ h. omega (arith, bit_beyond w n p inside h)) (cases_lt p n)
