-- A name looked up in two lists, one after the other.
use Rattle.std.proofs.Common.{◌≡◌, ℕ, zero, suc, ◌+◌, ◌<◌, ◌≤◌, Bool, true, false, cond, nat_lt, List, [], ◌∷◌, ◌++◌, length, Some, None, Option, get_or, slice_get, unwrap_or, Bor, sym, refl, ap, ◌∙◌, arith, length-append}
use Rattle.std.proofs.lemmas.Option.{unwrap_or-slice_get}
use Rattle.std.specs.Option.{option_map}
use Rattle.std.specs.Str.{bytes_eq}
use Rattle.std.proofs.lemmas.Bool.{cond-true, cond-false, lt-ltb, le-ltb, ltb-true, ltb-false}
use Rattle.formats.specs.Words.{index_of}
use Rattle.texts.specs.Spans.{found}
use Rattle.rules_text.specs.declared.names.Rule.{Rule}
use Rattle.rules_text.specs.declared.names.Rule.TheVariants.{Fixed, Row}
use Rattle.rules_text.specs.Naming.{rule_at, rule_found}

-- the place of a rule over so many ground places
abbrev pub numbered : ℕ → Rule → ℕ
numbered first Fixed = first
numbered first (Row r) = first + 1 + r

module _ (n : List ℕ) where
  index_first : (xs ys : List (List ℕ)) → index_of xs n < length xs → index_of (xs ++ ys) n ≡ index_of xs n
  index_first [] ys l = absurd (omega arith)
  index_first (x ∷ xs) ys l = go (bytes_eq x n) (index_of xs n) (index_of (xs ++ ys) n) (λ m. index_first xs ys m) l
    where
      go : (b : Bool) (i j : ℕ) → (i < length xs → j ≡ i) → cond b 0 (suc i) < suc (length xs) → cond b 0 (suc j) ≡ cond b 0 (suc i)
      go true i j on m = refl
      go false i j on m = ap suc (on (omega arith))

  index_second : (xs ys : List (List ℕ)) → length xs ≤ index_of xs n → index_of (xs ++ ys) n ≡ length xs + index_of ys n
  index_second [] ys l = omega arith
  index_second (x ∷ xs) ys l = go (bytes_eq x n) (index_of xs n) (index_of (xs ++ ys) n) (λ m. index_second xs ys m) l
    where
      go : (b : Bool) (i j : ℕ) → (length xs ≤ i → j ≡ length xs + index_of ys n) → suc (length xs) ≤ cond b 0 (suc i) → cond b 0 (suc j) ≡ suc (length xs) + index_of ys n
      go true i j on m = absurd (omega arith)
      go false i j on m = let e : j ≡ length xs + index_of ys n = on (omega arith) in omega arith

  -- ---- what a look-up says
  found_says : (xs : List (List ℕ)) (p : ℕ) → Some p ≡ found xs n → (index_of xs n ≡ p) × (p < length xs)
  found_says xs p e = go (nat_lt (index_of xs n) (length xs)) refl e
    where
      go : (b : Bool) → nat_lt (index_of xs n) (length xs) ≡ b → Some p ≡ cond b (Some (index_of xs n)) None → (index_of xs n ≡ p) × (p < length xs)
      go true q f = let i : p ≡ index_of xs n = cc in (sym i, omega (arith, ltb-true (index_of xs n) (length xs) q))
      go false q f = let z : ◌≡◌ {A = ℕ} 0 1 = cc in absurd (omega arith)

  missing_says : (xs : List (List ℕ)) → None ≡ found xs n → length xs ≤ index_of xs n
  missing_says xs e = go (nat_lt (index_of xs n) (length xs)) refl e
    where
      go : (b : Bool) → nat_lt (index_of xs n) (length xs) ≡ b → None ≡ cond b (Some (index_of xs n)) None → length xs ≤ index_of xs n
      go true q f = let z : ◌≡◌ {A = ℕ} 0 1 = cc in absurd (omega arith)
      go false q f = ltb-false (index_of xs n) (length xs) q

  found_is : (xs : List (List ℕ)) (p : ℕ) → index_of xs n ≡ p → p < length xs → Some p ≡ found xs n
  found_is xs p e l = ap Some (sym e) ∙ sym (cond-true _ _ _ (lt-ltb (index_of xs n) (length xs) (omega arith)))

  missing_is : (xs : List (List ℕ)) → length xs ≤ index_of xs n → None ≡ found xs n
  missing_is xs l = sym (cond-false _ _ _ (le-ltb (index_of xs n) (length xs) l))

  -- ---- and in two lists
  module _ (xs ys : List (List ℕ)) where
    pub found_first : (p : ℕ) → Some p ≡ found xs n → Some p ≡ found (xs ++ ys) n
    found_first p e =
        let s = found_says xs p e in
        found_is (xs ++ ys) p (index_first xs ys (omega arith) ∙ s.0) (omega (arith, length-append xs ys))

    pub found_second : (p : ℕ) → None ≡ found xs n → Some p ≡ found ys n → Some (length xs + p) ≡ found (xs ++ ys) n
    found_second p e f =
        let s = found_says ys p f in
        found_is (xs ++ ys) (length xs + p) (index_second xs ys (missing_says xs e) ∙ ap (λ i. length xs + i) s.0) (omega (arith, length-append xs ys))

    pub found_neither : None ≡ found xs n → None ≡ found ys n → None ≡ found (xs ++ ys) n
    found_neither e f =
        let i : index_of (xs ++ ys) n ≡ length xs + index_of ys n = index_second xs ys (missing_says xs e) in
        missing_is (xs ++ ys) (omega (arith, length-append xs ys, missing_says ys f))

    -- a rule, whose name stands in the second list
    pub found_rule : (first : ℕ) (o : Option Rule) → None ≡ found xs n → first ≡ length xs → o ≡ rule_found ys n → option_map (λ r. numbered first r) o ≡ found (xs ++ ys) n
    found_rule first o before counted e = ap (λ (r : Option Rule). option_map (λ q. numbered first q) r) e ∙ go (found ys n) refl
      where
        go : (f : Option ℕ) → found ys n ≡ f → option_map (λ q. numbered first q) (option_map rule_at f) ≡ found (xs ++ ys) n
        go None f = found_neither before (sym f)
        go (Some zero) f = let k : first ≡ length xs + 0 = omega arith in ap (λ (i : ℕ). Some i) k ∙ found_second 0 before (sym f)
        go (Some (suc r)) f = let k : first + 1 + r ≡ length xs + suc r = omega arith in ap (λ (i : ℕ). Some i) k ∙ found_second (suc r) before (sym f)

-- the bytes of a name, or of what is printed where there is none
pub now_of : (o : Option (Bor (List ℕ))) (none : Bor (List ℕ)) → (unwrap_or o none).now ≡ unwrap_or (option_map (λ x. x.now) o) none.now
now_of (Some x) none = refl
now_of None none = refl

-- a name in a list
pub name_shown : (ns : List (List ℕ)) (i : ℕ) (o : Option (Bor (List ℕ))) (none : Bor (List ℕ)) → option_map (λ x. x.now) o ≡ slice_get ns i → (unwrap_or o none).now ≡ get_or ns i none.now
name_shown ns i o none e = now_of o none ∙ ap (λ (p : Option (List ℕ)). unwrap_or p none.now) e ∙ unwrap_or-slice_get ns i none.now
