-- What a bank answers, and its tokens after: each move has one place to look at.
use Rattle.std.proofs.Common.{◌≡◌, ℕ, ◌+◌, ◌%◌, ◌<◌, ◌≤◌, Bool, true, false, cond, ◌&&◌, not, eqb, ltb, Ok, Err, sym, refl, arith}
use Rattle.std.specs.Bool.{then_some}
use Rattle.std.proofs.lemmas.Bool.Decides.{nat_tests}
use Rattle.std.proofs.lemmas.Bool.{lt-ltb, le-ltb, both_ways}
use Rattle.model.specs.Plant.{Answer, accepted, short_place, over_place, begin_answer, finish_answer, back_answer, begun, finished, gone_back, fault_at, refuse_at, known, ◌else_by◌}
use Rattle.model.specs.declared.refusal.Refusal.TheVariants.{OverLimit}
use Rattle.plant.proofs.Lowest.{lowest_at, lowest_none}
use Rattle.plant.proofs.Answering.{begins, fits}
use Rattle.bank.specs.Banks.{bit, next_place, arc, bank_net}
use Rattle.bank.specs.Words.{bit_most}
use Rattle.bank.specs.Ranging.{next_inside}

-- what finish and back answer, where the move t gives 1 to the place q
abbrev pub over_answer : ℕ → ℕ → (ℕ → Bool) → ℕ → ℕ → Answer
over_answer n w c t q = known (bank_net n c) t else_by refuse_at (fault_at (bank_net n c) OverLimit t) (over_place (bank_net n c) (bit w) (λ p. arc n p t q))

accepted_ok : (a : Answer) → accepted a ≡ true → Ok tt ≡ a
accepted_ok (Ok u) e = refl
accepted_ok (Err f) e = absurd (both_ways _ (sym e) refl)

module _ (n w : ℕ) (c : ℕ → Bool) (t : ℕ) where
  -- what begin asks: a token at the place t
  pub short_is : short_place (bank_net n c) (bit w) t ≡ then_some (ltb t n && not (eqb (bit w t) 1)) t
  short_is = go (ltb t n && not (eqb (bit w t) 1)) refl
    where
      go : (b : Bool) → (ltb t n && not (eqb (bit w t) 1)) ≡ b → short_place (bank_net n c) (bit w) t ≡ then_some b t
      go true e =
          lowest_at (λ p. ltb (bit w p) (arc n p t t)) n t (grind (arith, nat_tests))
          (λ p l. le-ltb (bit w p) (arc n p t t) (grind (arith, nat_tests))) (lt-ltb (bit w t) (arc n t t t) (grind (arith, nat_tests, bit_most w t)))
      go false e = lowest_none (λ p. ltb (bit w p) (arc n p t t)) n (λ p l. le-ltb (bit w p) (arc n p t t) (grind (arith, nat_tests)))

  -- the tokens after it
  pub begun_bits : (v : ℕ) → accepted (begin_answer (bank_net n c) (bit w) t) ≡ true → ((q : ℕ) → bit v q ≡ cond (eqb q t) 0 (bit w q))
      → bit v ≡ begun (bank_net n c) (bit w) t
  begun_bits v ok bits = λ i p. at p i
    where
      at : (p : ℕ) → bit v p ≡ begun (bank_net n c) (bit w) t p
      at p =
          let b : (t < n) × ((p : ℕ) → p < n → arc n p t t ≤ bit w p) = begins (bank_net n c) (bit w) t (accepted_ok _ ok) in
          let one : arc n t t t ≤ bit w t = b.1 t b.0 in
          rw ok (grind (arith, nat_tests, bits p, bit_most w t))

module _ (n w : ℕ) (c : ℕ → Bool) (t q : ℕ) (in' : t < n → q < n) where
  -- what finish and back ask, where the move t gives 1 to the place q
  over_is : over_place (bank_net n c) (bit w) (λ p. arc n p t q) ≡ then_some (ltb t n && eqb (bit w q) 1) q
  over_is = go (ltb t n && eqb (bit w q) 1) refl
    where
      go : (b : Bool) → (ltb t n && eqb (bit w q) 1) ≡ b → over_place (bank_net n c) (bit w) (λ p. arc n p t q) ≡ then_some b q
      go true e =
          let lt : t < n = grind (arith, nat_tests) in
          lowest_at (λ p. ltb (cond (ltb p n) 1 0) (bit w p + arc n p t q)) n q (in' lt)
          (λ p l. le-ltb (cond (ltb p n) 1 0) (bit w p + arc n p t q) (let m : q < n = in' lt in grind (arith, nat_tests, bit_most w p)))
          (lt-ltb (cond (ltb q n) 1 0) (bit w q + arc n q t q) (let m : q < n = in' lt in grind (arith, nat_tests)))
      go false e =
          lowest_none (λ p. ltb (cond (ltb p n) 1 0) (bit w p + arc n p t q)) n
          (λ p l. le-ltb (cond (ltb p n) 1 0) (bit w p + arc n p t q) (grind (arith, nat_tests, bit_most w p)))

  over_fits : accepted (over_answer n w c t q) ≡ true → (t < n) × ((p : ℕ) → p < n → bit w p + arc n p t q ≤ cond (ltb p n) 1 0)
  over_fits ok = fits (bank_net n c) (bit w) (λ p. arc n p t q) t (accepted_ok _ ok)

  over_bits : (v : ℕ) → accepted (over_answer n w c t q) ≡ true → ((p : ℕ) → bit v p ≡ cond (eqb p q) 1 (bit w p))
      → bit v ≡ (λ p. cond (accepted (over_answer n w c t q)) (bit w p + arc n p t q) (bit w p))
  over_bits v ok bits = λ i p. at p i
    where
      at : (p : ℕ) → bit v p ≡ cond (accepted (over_answer n w c t q)) (bit w p + arc n p t q) (bit w p)
      at p =
          let f : (t < n) × ((p : ℕ) → p < n → bit w p + arc n p t q ≤ cond (ltb p n) 1 0) = over_fits ok in
          let lt : t < n = f.0 in
          let l : q < n = in' f.0 in
          let one : bit w q + arc n q t q ≤ cond (ltb q n) 1 0 = f.1 q l in
          rw ok (grind (arith, nat_tests, bits p))

module _ (n w : ℕ) (c : ℕ → Bool) (t : ℕ) where
  pub over_take_is : over_place (bank_net n c) (bit w) (λ p. arc n p t t) ≡ then_some (ltb t n && eqb (bit w t) 1) t
  over_take_is = over_is n w c t t (λ h. h)

  pub over_give_is : n % 4 ≡ 0 → over_place (bank_net n c) (bit w) (λ p. arc n p t (next_place t)) ≡ then_some (ltb t n && eqb (bit w (next_place t)) 1) (next_place t)
  over_give_is whole = over_is n w c t (next_place t) (next_inside n t whole)

  pub finished_bits : n % 4 ≡ 0 → (v : ℕ) → accepted (finish_answer (bank_net n c) (bit w) t) ≡ true → ((p : ℕ) → bit v p ≡ cond (eqb p (next_place t)) 1 (bit w p))
      → bit v ≡ finished (bank_net n c) (bit w) t
  finished_bits whole = over_bits n w c t (next_place t) (next_inside n t whole)

  pub gone_back_bits : (v : ℕ) → accepted (back_answer (bank_net n c) (bit w) t) ≡ true → ((p : ℕ) → bit v p ≡ cond (eqb p t) 1 (bit w p))
      → bit v ≡ gone_back (bank_net n c) (bit w) t
  gone_back_bits = over_bits n w c t t (λ h. h)
