-- Loops that go through bytes one by one.
use Rattle.std.proofs.Common.{◌≡◌, ℕ, ◌+◌, ◌-◌, ◌*◌, ◌^◌, ◌<◌, ◌≤◌, min, Bool, true, false, cond, not, ◌&&◌, eqb, ◌⊎◌, HoldsAt, List, [], ◌∷◌, map, length, get_or, take, drop, Option, MatchOption, sym, refl, ap, ◌∙◌, pow-suc, add-one, inl, inr, arith}
use native.Mathlib.Nat.{pow-le-pow_right}
use Rattle.std.specs.List.{AllWithin, prefix_len, list_all}
use Rattle.std.specs.Option.{unwrap_or}
use Rattle.std.proofs.lemmas.Iterator.{index_from_first}
use Rattle.std.proofs.lemmas.List.{at_drop_more, at_drop_all, take_rest, drop_all}
use Rattle.std.proofs.lemmas.Bool.{and_left, cases_lt}
use Rattle.formats.specs.Words.{is_not, all}
use Rattle.texts.specs.Numbers.{most_digits}

-- f says that p holds of each element; an index comes as far as f of what is left is f of the whole
module _ {X : Type 0} (p : X → Bool) (f : List X → Bool) (none : f [] ≡ true) (more : (x : X) (xs : List X) → f (x ∷ xs) ≡ (p x && f xs)) where
  at_each : (xs : List X) (i : ℕ) (d : X) → i < length xs → f (drop i xs) ≡ (p (get_or xs i d) && f (drop (i + 1) xs))
  at_each xs i d l = at_drop_more f xs i d l ∙ more (get_or xs i d) (drop (i + 1) xs)

  pub each_stops : (xs : List X) (i : ℕ) (d : X) → i < length xs → f (drop i xs) ≡ f xs → p (get_or xs i d) ≡ false → f xs ≡ false
  each_stops xs i d l inv e = sym inv ∙ at_each xs i d l ∙ and_left (p (get_or xs i d)) (f (drop (i + 1) xs)) e

  pub each_goes : (xs : List X) (i : ℕ) (d : X) → i < length xs → f (drop i xs) ≡ f xs → p (get_or xs i d) ≡ true → f (drop (i + 1) xs) ≡ f xs
  each_goes xs i d l inv e = sym (ap (λ (b : Bool). b && f (drop (i + 1) xs)) e) ∙ sym (at_each xs i d l) ∙ inv

  pub each_ends : (xs : List X) (i : ℕ) → length xs ≤ i → f (drop i xs) ≡ f xs → f xs ≡ true
  each_ends xs i l inv = sym inv ∙ at_drop_all f xs i l ∙ none

-- ---- what a chain over a slice answers, where each element is asked whether p holds
module _ {X : Type 0} (p : X → Bool) where
  abbrev pub Yes : X → Type 0
  Yes x = p x ≡ true

  abbrev pub No : X → Type 0
  No x = p x ≡ false

-- `all` of the library and of the format
pub all_is : {X : Type 0} (p : X → Bool) (xs : List X) → list_all p xs ≡ all p xs
all_is p [] = refl
all_is p (x ∷ xs) = ap (λ (b : Bool). p x && b) (all_is p xs)

-- `all` of what the elements stand for
pub all_map : {X Y : Type 0} (p : Y → Bool) (f : X → Y) (xs : List X) → all (λ x. p (f x)) xs ≡ all p (map f xs)
all_map p f [] = refl
all_map p f (x ∷ xs) = ap (λ (b : Bool). p (f x) && b) (all_map p f xs)

-- of `position` where the byte b is looked for
pub first_is : (b : ℕ) (xs : List ℕ) (r : Option ℕ) → MatchOption r (AllWithin (No (λ x. eqb x b)) xs 0 (length xs)) (λ i. (i < length xs) × HoldsAt (Yes (λ x. eqb x b)) xs i × AllWithin (No (λ x. eqb x b)) xs 0 i)
    → prefix_len (is_not b) xs ≡ unwrap_or r (length xs)
first_is b =
    index_from_first (prefix_len (is_not b)) (Yes (λ x. eqb x b)) (No (λ x. eqb x b)) refl (λ x xs e. ap (λ (t : Bool). cond (not t) (1 + prefix_len (is_not b) xs) 0) e)
    (λ x xs e. ap (λ (t : Bool). cond (not t) (1 + prefix_len (is_not b) xs) 0) e ∙ omega arith)

-- the bytes from s on, none where s lies beyond the end
pub rest_from : (bs : List ℕ) (s m : ℕ) → m ≡ min s (length bs) → take (length bs - m) (drop m bs) ≡ drop s bs
rest_from bs s m e = take_rest bs m ∙ go (cases_lt s (length bs))
  where
    go : (s < length bs) ⊎ (length bs ≤ s) → drop m bs ≡ drop s bs
    go (inl l) = ap (λ (k : ℕ). drop k bs) (omega arith)
    go (inr l) = drop_all m bs (omega arith) ∙ sym (drop_all s bs l)

-- one digit more
pub power_more : (v d i : ℕ) → v < 10 ^ i → d ≤ 9 → v * 10 + d < 10 ^ (i + 1)
power_more v d i h small = omega (arith, ap (λ (k : ℕ). 10 ^ k) (add-one i), pow-suc 10 i)

pub power_most : (i : ℕ) → i < most_digits → 10 ^ i ≤ 100000000
power_most i h = let le : i ≤ 8 = omega arith in pow-le-pow_right (omega arith) le
