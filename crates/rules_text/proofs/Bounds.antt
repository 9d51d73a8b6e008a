-- The bound of a rule, as its field writes it.
use Rattle.std.proofs.Common.{◌≡◌, ℕ, ◌-◌, ◌<◌, ◌≤ℤ◌, ◌<ℤ◌, IfSome, Bool, true, false, cond, ◌&&◌, leb, List, [], ◌∷◌, length, get_or, take, drop, ℤ, pos, neg_ℤ, ◌-ℤ◌, Some, None, Option, to_z, of_z, w32, sym, refl, ap, ap₂, ◌∙◌, subst, arith}
use borrow.Author.Differences.{ints}
use lib.Signed.{le_z}
use Rattle.std.specs.Bool.{then_some}
use Rattle.std.specs.Option.{option_map}
use Rattle.std.proofs.lemmas.List.{take_rest}
use Rattle.std.proofs.lemmas.Bool.{eq-eqb, ne_eqb}
use Rattle.std.proofs.lemmas.Int.{to_z_pos}
use Rattle.formats.specs.Words.{is_numeral, value}
use Rattle.formats.proofs.Tests.{d_numeral, numeral_is}
use Rattle.rules_text.specs.Reading.{whole_said, bound_said}

pub whole_small : (f : List ℕ) (n : ℕ) → Some n ≡ cond (is_numeral 6 f) (Some (value f)) None → n < 1000000
whole_small f n e = go (is_numeral 6 f) refl e
  where
    go : (t : Bool) → is_numeral 6 f ≡ t → Some n ≡ cond t (Some (value f)) None → n < 1000000
    go true q h =
        let same : n ≡ value f = cc in
        let w = numeral_is 6 f (omega arith) ((d_numeral 6 f (omega arith) (omega arith)).0 q) in
        omega (arith, w.0)
    go false q h = let z : ◌≡◌ {A = ℕ} 0 1 = cc in absurd (omega arith)

pub plain_bound : (f : List ℕ) → (get_or f 0 0 ≡ 45 → ⊥) → bound_said f ≡ whole_said f
plain_bound [] n = refl
plain_bound (c ∷ cs) n = ap (λ (t : Bool). cond (cond t (is_numeral 6 cs && leb 1 (value cs)) (is_numeral 6 (c ∷ cs))) (Some (cond t (neg_ℤ (pos (value cs))) (pos (value (c ∷ cs))))) None) (ne_eqb c 45 n)

pub minus_bound : (f : List ℕ) → get_or f 0 0 ≡ 45
    → bound_said f ≡ cond (is_numeral 6 (take (length f - 1) (drop 1 f)) && leb 1 (value (take (length f - 1) (drop 1 f)))) (Some (neg_ℤ (pos (value (take (length f - 1) (drop 1 f)))))) None
minus_bound [] e = absurd (omega arith)
minus_bound (c ∷ cs) e =
    ap (λ (t : Bool). cond (cond t (is_numeral 6 cs && leb 1 (value cs)) (is_numeral 6 (c ∷ cs))) (Some (cond t (neg_ℤ (pos (value cs))) (pos (value (c ∷ cs))))) None) (eq-eqb c 45 e)
    ∙ ap (λ (d : List ℕ). cond (is_numeral 6 d && leb 1 (value d)) (Some (neg_ℤ (pos (value d)))) None) (sym (take_rest (c ∷ cs) 1))

pub whole_is : (f : List ℕ) → option_map (λ (n : ℕ). to_z w32 n) (cond (is_numeral 6 f) (Some (value f)) None) ≡ whole_said f
whole_is f = go (is_numeral 6 f) refl
  where
    go : (t : Bool) → is_numeral 6 f ≡ t → option_map (λ (n : ℕ). to_z w32 n) (cond t (Some (value f)) None) ≡ cond t (Some (pos (value f))) None
    go true q = ap (λ (z : ℤ). Some z) (to_z_pos w32 (value f) (let l = whole_small f (value f) (ap (λ (t : Bool). cond t (Some (value f)) None) (sym q)) in omega arith))
    go false q = refl

pub whole_within : (f : List ℕ) (o : Option ℤ) → o ≡ whole_said f → IfSome o (λ z. (pos 0 ≤ℤ z) × (z <ℤ pos 1000000))
whole_within f o e = subst (λ (p : Option ℤ). IfSome p (λ z. (pos 0 ≤ℤ z) × (z <ℤ pos 1000000))) (sym e) (go (is_numeral 6 f) refl)
  where
    go : (t : Bool) → is_numeral 6 f ≡ t → IfSome (cond t (Some (pos (value f))) None) (λ z. (pos 0 ≤ℤ z) × (z <ℤ pos 1000000))
    go true q = let l = whole_small f (value f) (ap (λ (t : Bool). cond t (Some (value f)) None) (sym q)) in (omega (arith, ints), omega (arith, ints))
    go false q = tt

negative : (n : ℕ) → n < 1000000 → to_z w32 (of_z w32 (pos 0 -ℤ to_z w32 (of_z w32 (pos n)))) ≡ neg_ℤ (pos n)
negative n h = omega (arith, ints)

at_least : (n : ℕ) → n < 1000000 → le_z (pos 1) (to_z w32 (of_z w32 (pos n))) ≡ leb 1 n
at_least n h = ap (le_z (pos 1)) (to_z_pos w32 n (omega arith))

some_is : (b : Bool) (y : ℤ) → then_some b y ≡ cond b (Some y) None
some_is true y = refl
some_is false y = refl

pub minus_said : (f : List ℕ) (z : ℤ) → get_or f 0 0 ≡ 45 → Some z ≡ whole_said (take (length f - 1) (drop 1 f)) → z <ℤ pos 1000000
    → then_some (le_z (pos 1) (to_z w32 (of_z w32 z))) (to_z w32 (of_z w32 (pos 0 -ℤ to_z w32 (of_z w32 z)))) ≡ bound_said f
minus_said f z e w small = go (is_numeral 6 ds) refl w ∙ sym (minus_bound f e)
  where
    ds : List ℕ
    ds = take (length f - 1) (drop 1 f)

    go : (t : Bool) → is_numeral 6 ds ≡ t → Some z ≡ cond t (Some (pos (value ds))) None
        → then_some (le_z (pos 1) (to_z w32 (of_z w32 z))) (to_z w32 (of_z w32 (pos 0 -ℤ to_z w32 (of_z w32 z)))) ≡ cond (is_numeral 6 ds && leb 1 (value ds)) (Some (neg_ℤ (pos (value ds)))) None
    go true q r =
        let n = value ds in
        let same : z ≡ pos n = cc in
        let few : n < 1000000 = omega (arith, ints) in
        ap (λ (y : ℤ). then_some (le_z (pos 1) (to_z w32 (of_z w32 y))) (to_z w32 (of_z w32 (pos 0 -ℤ to_z w32 (of_z w32 y))))) same
        ∙ ap₂ then_some (at_least n few) (negative n few) ∙ some_is (leb 1 n) (neg_ℤ (pos n))
        ∙ sym (ap (λ (b : Bool). cond (b && leb 1 n) (Some (neg_ℤ (pos n))) None) q)
    go false q r = let n : ◌≡◌ {A = ℕ} 0 1 = cc in absurd (omega arith)
