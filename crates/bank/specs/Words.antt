-- What `|`, `&`, `!` and `1 << p` do to one bit.
use Rattle.std.specs.Prelude.{◌≡◌, ℕ, zero, suc, ◌+◌, ◌-◌, ◌/◌, ◌%◌, ◌^◌, ◌<◌, ◌≤◌, min, max, cond, ◌==◌, ◌≢◌, bit_and, bit_or, refl}
use Rattle.std.proofs.Common.{sym, ap, ◌∙◌, ⊎_elim, div-one, arith, pow_pos, pow_mono}
use Rattle.std.proofs.Math.Nat.{pow-succ', div-div-eq-div-mul, div-eq_of_lt, div_self}
use Rattle.std.proofs.lemmas.Nat.{and_shr, or_shr, and_le_l}
use Rattle.std.specs.Int.Bits.{and_step, or_step}
use Rattle.std.proofs.Math.Pow.{pow-lt}
use Rattle.std.proofs.lemmas.Bool.{cases_eq, cases_lt, cond-true, cond-false, eq-eqb, ne_eqb}
use Rattle.bank.specs.Banks.{bit}

or_bit : (a b p : ℕ) → bit (bit_or a b) p ≡ max (bit a p) (bit b p)
or_bit a b p = ap (λ n. n % 2) (or_shr a b p) ∙ omega (arith, or_step (a / 2 ^ p) (b / 2 ^ p))

and_bit : (a b p : ℕ) → bit (bit_and a b) p ≡ min (bit a p) (bit b p)
and_bit a b p = ap (λ n. n % 2) (and_shr a b p) ∙ omega (arith, and_step (a / 2 ^ p) (b / 2 ^ p))

bit_zero : (w : ℕ) → bit w 0 ≡ w % 2
bit_zero w = ap (λ n. n % 2) (div-one w)

-- a bit after the first is a bit of the half
bit_suc : (w q : ℕ) → bit w (suc q) ≡ bit (w / 2) q
bit_suc w q = ap (λ n. w / n % 2) (pow-succ' 2 q) ∙ sym (ap (λ n. n % 2) (div-div-eq-div-mul w 2 (2 ^ q)))

bit_past : (w q : ℕ) → w < 2 ^ q → bit w q ≡ 0
bit_past w q h = ap (λ n. n % 2) (div-eq_of_lt h)

-- a word of n bits has none at or beyond n
pub bit_beyond : (w n q : ℕ) → w < 2 ^ n → n ≤ q → bit w q ≡ 0
bit_beyond w n q h l = let far : 2 ^ n ≤ 2 ^ q = pow_mono l in bit_past w q (omega arith)

pub bit_most : (w q : ℕ) → bit w q ≤ 1
bit_most w q = omega arith

pub bit_zero_from : (w q : ℕ) → (bit w q ≢ 1) → bit w q ≡ 0
bit_zero_from w q ne = omega (arith, bit_most w q)

pow_same : (p : ℕ) → bit (2 ^ p) p ≡ 1
pow_same p = ap (λ n. n % 2) (div_self (pow_pos p))

pow_other : (p q : ℕ) → (q ≢ p) → bit (2 ^ p) q ≡ 0
pow_other zero zero ne = absurd (ne refl)
pow_other zero (suc q) ne = bit_suc 1 q ∙ bit_past 0 q (pow_pos q)
pow_other (suc p) zero ne = bit_zero (2 ^ suc p) ∙ omega (arith, pow-succ' 2 p)
pow_other (suc p) (suc q) ne =
    bit_suc (2 ^ suc p) q ∙ ap (λ n. bit n q) (omega (arith, pow-succ' 2 p)) ∙ pow_other p q (λ e. ne (ap suc e))

-- `!m` in a word of n bits
not_bit : (n m q : ℕ) → m < 2 ^ n → q < n → bit (2 ^ n - 1 - m) q ≡ 1 - bit m q
not_bit zero m q lt h = absurd (omega arith)
not_bit (suc n) m zero lt h =
    bit_zero (2 ^ suc n - 1 - m) ∙ omega (arith, pow-succ' 2 n) ∙ sym (ap (λ b. 1 - b) (bit_zero m))
not_bit (suc n) m (suc q) lt h =
    let e : (2 ^ suc n - 1 - m) / 2 ≡ 2 ^ n - 1 - m / 2 = omega (arith, pow-succ' 2 n) in
    bit_suc (2 ^ suc n - 1 - m) q ∙ ap (λ k. bit k q) e ∙ not_bit n (m / 2) q (omega (arith, pow-succ' 2 n)) (omega arith) ∙ sym (ap (λ b. 1 - b) (bit_suc m q))

-- one bit set, and one bit cleared
pub set_bit : (w p q : ℕ) → bit (bit_or w (2 ^ p)) q ≡ cond (q == p) 1 (bit w q)
set_bit w p q =
    ⊎_elim
    (λ e. ap (bit (bit_or w (2 ^ p))) e ∙ or_bit w (2 ^ p) p ∙ omega (arith, pow_same p) ∙ sym (cond-true (q == p) 1 (bit w q) (eq-eqb q p e)))
    (λ ne. or_bit w (2 ^ p) q ∙ omega (arith, pow_other p q ne) ∙ sym (cond-false (q == p) 1 (bit w q) (ne_eqb q p ne)))
    (cases_eq q p)

pub clear_bit : (k w p q : ℕ) → p < k → w < 2 ^ k → bit (bit_and w (2 ^ k - 1 - 2 ^ p)) q ≡ cond (q == p) 0 (bit w q)
clear_bit k w p q lt fits =
    let m = 2 ^ k - 1 - 2 ^ p in
    let less : 2 ^ p < 2 ^ k = pow-lt lt in
    ⊎_elim
    (λ e. ap (bit (bit_and w m)) e ∙ and_bit w m p ∙ omega (arith, pow_same p, not_bit k (2 ^ p) p less lt) ∙ sym (cond-true (q == p) 0 (bit w q) (eq-eqb q p e)))
    (λ ne. ⊎_elim
    (λ h. and_bit w m q ∙ omega (arith, pow_other p q ne, not_bit k (2 ^ p) q less h))
    (λ h. bit_beyond (bit_and w m) k q (omega (arith, and_le_l w m)) h ∙ sym (bit_beyond w k q fits h))
    (cases_lt q k)
    ∙ sym (cond-false (q == p) 0 (bit w q) (ne_eqb q p ne)))
    (cases_eq q p)

-- one bit more at the end of a word
pub next_inside_word : (w p : ℕ) → w < 2 ^ p → w < 2 ^ (p + 1)
next_inside_word w p h = let far : 2 ^ p ≤ 2 ^ (p + 1) = pow_mono (omega arith) in omega arith

pub set_here : (w r p : ℕ) → ((q : ℕ) → bit r q ≡ cond (q == p) 1 (bit w q)) → bit r p ≡ 1
set_here w r p bits = bits p ∙ cond-true (p == p) 1 (bit w p) (eq-eqb p p refl)

pub set_below : (w r p : ℕ) → ((q : ℕ) → bit r q ≡ cond (q == p) 1 (bit w q)) → (q : ℕ) → q < p → bit r q ≡ bit w q
set_below w r p bits q h = bits q ∙ cond-false (q == p) 1 (bit w q) (ne_eqb q p (λ e. omega arith))
