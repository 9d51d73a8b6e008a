-- Euclid's remainders: each pair has the common divisors of the pair before.
use Rattle.std.proofs.Common.{◌≡◌, ℕ, ◌/◌, ◌%◌, ◌≤◌, sym, subst, arith}
use Prim.Native.Nat.{◌∣◌}
use native.Mathlib.Nat.{dvd-mul_right, dvd-mod_iff, dvd-zero, dvd_refl, pos_of_dvd_of_pos}
use Rattle.model.specs.Working.{divisor}
use Rattle.model.specs.Rounds.{Gcd}
use Rattle.model.proofs.Rounds.{divisor_gcd, dvd_small}
use Rattle.rules.specs.Divisors.{GreatestDivisor}

-- x and y have the common divisors of a and e
pub record SameDivisors (a e x y : ℕ) : Type 0 where
  pub onward : (d : ℕ) → d ∣ a → d ∣ e → (d ∣ x) × (d ∣ y)
  pub back : (d : ℕ) → d ∣ x → d ∣ y → (d ∣ a) × (d ∣ e)

pub same_next : {a e x y : ℕ} → SameDivisors a e x y → SameDivisors a e y (x % y)
same_next {a} {e} {x} {y} s = record {
  onward = λ d h k. let o = s.onward d h k in (o.1, (dvd-mod_iff d {m = x} {n = y} o.1).1 o.0);
  back = λ d h k. s.back d ((dvd-mod_iff d {m = x} {n = y} h).0 k) h;
}

pub greatest_last : {a e x y : ℕ} → SameDivisors a e x y → y ≡ 0 → GreatestDivisor a e x
greatest_last {a} {e} {x} {y} s z =
    let b = s.back x (dvd_refl x) (subst (λ (i : ℕ). x ∣ i) (sym z) (dvd-zero x)) in
    record { of_a = b.0; of_e = b.1; most = λ d h k. (s.onward d h k).0 }

pub greatest_some : {a e h : ℕ} → 1 ≤ e → GreatestDivisor a e h → 1 ≤ h
greatest_some l s = pos_of_dvd_of_pos s.of_e l

-- where e is some, it is the divisor that a round uses
pub greatest_is : {a e h : ℕ} → 1 ≤ e → GreatestDivisor a e h → h ≡ divisor e a e
greatest_is {a} {e} {h} l s =
    let k : ℕ = divisor e a e in
    let g : Gcd a e k = divisor_gcd a e l in
    let of_a : k ∣ a = subst (λ (i : ℕ). k ∣ i) g.of_a (dvd-mul_right k (a / k)) in
    let of_e : k ∣ e = subst (λ (i : ℕ). k ∣ i) g.of_e (dvd-mul_right k (e / k)) in
    same h k (g.most h s.of_a s.of_e) (dvd_small k h (greatest_some l s) (s.most k of_a of_e))
  where
    same : (a b : ℕ) → a ≤ b → b ≤ a → a ≡ b
    same a b h k = omega arith
