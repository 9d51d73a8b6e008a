-- Names as parts of a text, and looking them up.
use Rattle.std.proofs.Common.{◌≡◌, ℕ, suc, ◌+◌, ◌-◌, ◌<◌, ◌≤◌, min, Bool, true, false, cond, not, ◌&&◌, ltb, ◌⊎◌, HoldsAt, List, [], ◌∷◌, ◌++◌, map, length, take, drop, is_some, Some, None, Option, MatchOption, sym, refl, ap, ◌∙◌, inl, inr, arith}
use Rattle.std.specs.List.{AllWithin}
use Rattle.std.specs.Option.{unwrap_or}
use Rattle.std.specs.Str.{bytes_eq}
use Rattle.std.proofs.lemmas.Iterator.{index_from_first}
use Rattle.std.proofs.lemmas.List.{take_all, drop_all, length-drop, length-map}
use Rattle.std.proofs.lemmas.Bool.{cases_lt, cond-true, cond-false, lt-ltb, le-ltb}
use Rattle.formats.specs.Words.{index_of, is_known, is_new}
use Rattle.texts.specs.Spans.{found}
use Rattle.texts.proofs.Scanning.{Yes, No}

-- ---- a part of a text, cut to the text
pub clamped : (bs : List ℕ) (s n st ln : ℕ) → st ≡ min s (length bs) → ln ≡ min n (length bs - st) → take (st + ln - st) (drop st bs) ≡ take n (drop s bs)
clamped bs s n st ln e f = ap (λ (k : ℕ). take k (drop st bs)) short ∙ go (cases_lt s (length bs))
  where
    short : st + ln - st ≡ ln
    short = omega arith

    go : (s < length bs) ⊎ (length bs ≤ s) → take ln (drop st bs) ≡ take n (drop s bs)
    go (inl l) = ap (λ (k : ℕ). take ln (drop k bs)) (omega arith) ∙ fit (cases_lt n (length bs - s))
      where
        fit : (n < length bs - s) ⊎ (length bs - s ≤ n) → take ln (drop s bs) ≡ take n (drop s bs)
        fit (inl m) = ap (λ (k : ℕ). take k (drop s bs)) (omega arith)
        fit (inr m) = take_all ln (drop s bs) (omega (arith, length-drop s bs)) ∙ sym (take_all n (drop s bs) (omega (arith, length-drop s bs)))
    go (inr l) =
        take_all ln (drop st bs) (omega (arith, length-drop st bs)) ∙ drop_all st bs (omega arith) ∙ sym (take_all n (drop s bs) (omega (arith, length-drop s bs)) ∙ drop_all s bs l)

-- ---- the first of the items, by their names f, that has the name n
module _ {X : Type 0} (f : X → List ℕ) (n : List ℕ) where
  abbrev named : X → Bool
  named x = bytes_eq (f x) n

  pub found_is : (xs : List X) (r : Option ℕ) → MatchOption r (AllWithin (No named) xs 0 (length xs)) (λ i. (i < length xs) × HoldsAt (Yes named) xs i × AllWithin (No named) xs 0 i) → r ≡ found (map f xs) n
  found_is xs r h = go r h (index_from_first (λ ys. index_of (map f ys) n) (Yes named) (No named) refl (λ x ys e. cond-true _ _ _ e) (λ x ys e. cond-false _ _ _ e ∙ omega arith) xs r h)
    where
      go : (o : Option ℕ) → MatchOption o (AllWithin (No named) xs 0 (length xs)) (λ i. (i < length xs) × HoldsAt (Yes named) xs i × AllWithin (No named) xs 0 i) → index_of (map f xs) n ≡ unwrap_or o (length xs) → o ≡ found (map f xs) n
      go None q k = sym (cond-false _ _ _ (le-ltb (index_of (map f xs) n) (length (map f xs)) (omega (arith, k, length-map xs f))))
      go (Some i) q k = ap Some (sym k) ∙ sym (cond-true _ _ _ (lt-ltb (index_of (map f xs) n) (length (map f xs)) (omega (arith, k, q.0, length-map xs f))))

-- ---- a name that none has
not_known : (ns : List (List ℕ)) (n : List ℕ) → is_new ns n ≡ not (is_known ns n)
not_known [] n = refl
not_known (m ∷ ms) n = go (bytes_eq m n) (not_known ms n)
  where
    go : (b : Bool) → is_new ms n ≡ not (is_known ms n) → (not b && is_new ms n) ≡ not (ltb (cond b 0 (suc (index_of ms n))) (suc (length ms)))
    go true r = ap not (sym (lt-ltb 0 (suc (length ms)) (omega arith)))
    go false r = r ∙ ap not (same_test (index_of ms n) (length ms))
      where
        same_test : (i k : ℕ) → ltb i k ≡ ltb (suc i) (suc k)
        same_test i k = elim (cases_lt i k) [ inl l ↦ lt-ltb i k l ∙ sym (lt-ltb (suc i) (suc k) (omega arith)) | inr l ↦ le-ltb i k l ∙ sym (le-ltb (suc i) (suc k) (omega arith)) ]

pub new_from_none : (ns : List (List ℕ)) (n : List ℕ) (r : Bool) → is_some (found ns n) ≡ not r → r ≡ is_new ns n
new_from_none ns n r e = sym (not_known ns n ∙ ap not (sym (some (is_known ns n))) ∙ ap not e ∙ twice r)
  where
    some : (b : Bool) → is_some (cond b (Some (index_of ns n)) None) ≡ b
    some true = refl
    some false = refl

    twice : (b : Bool) → not (not b) ≡ b
    twice true = refl
    twice false = refl

-- none of two lists of names
pub new_append : (ms ns : List (List ℕ)) (n : List ℕ) → is_new (ms ++ ns) n ≡ (is_new ms n && is_new ns n)
new_append [] ns n = refl
new_append (m ∷ ms) ns n = go (not (bytes_eq m n)) (new_append ms ns n)
  where
    go : (b : Bool) → is_new (ms ++ ns) n ≡ (is_new ms n && is_new ns n) → (b && is_new (ms ++ ns) n) ≡ ((b && is_new ms n) && is_new ns n)
    go true r = r
    go false r = refl

-- one map after another
pub map_map : {X Y Z : Type 0} (g : Y → Z) (f : X → Y) (xs : List X) → map g (map f xs) ≡ map (λ x. g (f x)) xs
map_map g f [] = refl
map_map g f (x ∷ xs) = ap (λ zs. g (f x) ∷ zs) (map_map g f xs)
