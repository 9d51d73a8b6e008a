-- An array made of what a closure answers at each index.
use Rattle.std.proofs.Common.{◌≡◌, ℕ, zero, suc, ◌+◌, ◌<◌, ◌≤◌, List, [], ◌∷◌, length, get_or, map, take, sym, ap, ◌∙◌, subst, ⊎_elim, arith}
use Rattle.std.proofs.lemmas.Bool.{cases_eq, cases_lt}
use Rattle.std.proofs.lemmas.List.{get_or-take, get_or_past, get_or-map, length-map, length-take, take_all, take-map}
use Rattle.std.specs.Array.{IsFromFnResultFrom, IsFromFnResult}
use Rattle.std.specs.Fn.{Called, Mut}

module _ {F B : Type 0} {g : Mut F (ℕ × Unit {0}) B} (f : F) (ys : List B) (n : ℕ) (P : ℕ → B → Type 0)
    (tells : (i : ℕ) (y : B) (q : F) → i < n → Called g f (i, tt) y q → (q ≡ f) × P i y) where
  made_from : (i k j : ℕ) (e : B) → IsFromFnResultFrom g f ys i k → i + k ≡ n → i ≤ j → j < n → P j (get_or ys j e)
  made_from i zero j e made s h l = absurd (omega arith)
  made_from i (suc k) j e made s h l =
      let told : (made.0 ≡ f) × P i made.1 = tells i made.1 made.0 (omega arith) made.3 in
      ⊎_elim
      (λ q. subst (λ (m : ℕ). P m (get_or ys m e)) (sym q) (subst (P i) (sym (made.2.1 e)) told.1))
      (λ ne. made_from (i + 1) k j e (subst (λ (q : F). IsFromFnResultFrom g q ys (i + 1) k) told.0 made.4) (omega arith) (past i j h ne) l)
      (cases_eq j i)
    where
      past : (a b : ℕ) → a ≤ b → (b ≡ a → ⊥) → a + 1 ≤ b
      past a b m ne = omega arith

  -- each element is what the closure answers at its index
  pub made_at : IsFromFnResult g f ys n → (i : ℕ) (e : B) → i < n → P i (get_or ys i e)
  made_at made i e l = made_from 0 n i e made.each (omega arith) (omega arith) l

-- what stands at an index of a list of values, and what is given past its end
pub front_at : {X Y : Type 0} (R : X → Y → Type 0) (f : X → Y) (xs : List X) (i : ℕ) (spare y : Y) → ((x : X) (u : Y) → R x u → u ≡ f x)
    → ((d : X) → i < length xs → R (get_or xs i d) y) → (length xs ≤ i → y ≡ spare) → y ≡ get_or (map f xs) i spare
front_at R f [] i spare y tells here beyond = beyond (omega arith)
front_at R f (x ∷ xs) zero spare y tells here beyond = tells x y (here x (omega arith))
front_at R f (x ∷ xs) (suc i) spare y tells here beyond =
    front_at R f xs i spare y tells (λ d l. here d (omega arith)) (λ l. beyond (omega arith))

-- the same of the first n alone, in a list of n
pub front_is : {X V : Type 0} (f : X → V) (xs : List X) (n : ℕ) (ys : List V) (spare : V) → length ys ≡ n
    → ((i : ℕ) → i < n → get_or ys i spare ≡ get_or (map f xs) i spare) → (i : ℕ) → get_or ys i spare ≡ get_or (map f (take n xs)) i spare
front_is {X} {V} f xs n ys spare long each i =
    ⊎_elim
    (λ l. each i l ∙ sym (get_or-take n (map f xs) i spare l))
    (λ h. get_or_past ys i spare (omega arith) ∙ sym (get_or_past (take n (map f xs)) i spare (omega (arith, length-take n (map f xs)))))
    (cases_lt i n)
    ∙ ap (λ (zs : List V). get_or zs i spare) (take-map f n xs)

-- ---- what a caller of `front` has of it, where all the items are copied
pub copied : {X V : Type 0} (f : X → V) (qs xs : List X) (n : ℕ) (is : List V) (e : V) → qs ≡ xs → length xs ≤ n
    → ((p : ℕ) → get_or is p e ≡ get_or (map f (take n qs)) p e) → (p : ℕ) → get_or is p e ≡ get_or (map f xs) p e
copied {X} f qs xs n is e same few h p =
    h p ∙ ap (λ (ys : List X). get_or (map f (take n ys)) p e) same ∙ ap (λ (ys : List X). get_or (map f ys) p e) (take_all n xs few)

pub mapped : {X V : Type 0} (f : X → V) (xs : List X) (d : X) (p : ℕ) → get_or (map f xs) p (f d) ≡ f (get_or xs p d)
mapped f xs d p =
    ⊎_elim
    (λ l. get_or-map f xs p d (f d) l)
    (λ h. get_or_past (map f xs) p (f d) (omega (arith, length-map xs f)) ∙ sym (ap f (get_or_past xs p d h)))
    (cases_lt p (length xs))
