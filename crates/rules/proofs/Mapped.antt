-- What a closure may be asked of the elements of an array, and what it gives of them, where no call changes it.
use Rattle.std.proofs.Common.{◌≡◌, ℕ, zero, suc, ◌+◌, ◌<◌, ◌≤◌, List, [], ◌∷◌, get_or, sym, subst, ⊎_elim, arith}
use Rattle.std.proofs.lemmas.Bool.{cases_eq}
use Rattle.std.specs.Array.{list_steps, MapsFrom, IsMapOf}
use Rattle.std.specs.Fn.{Called, Mut}
use Rattle.std.specs.Iterator.{Yields, CallableAtEachTurn}
use Rattle.std.specs.List.{FoldsTo}

module _ {A : Type 0} (z : A) (P : A → Type 0) where
  rest : (xs s t : List A) → ((i : ℕ) → P (get_or s i z)) → Yields list_steps s xs t → (i : ℕ) → P (get_or t i z)
  rest [] s t h y = subst (λ (l : List A). (i : ℕ) → P (get_or l i z)) y h
  rest (x ∷ xs) s t h y = rest xs y.0 t (λ i. subst (λ (l : List A). P (get_or l (suc i) z)) y.1 (h (suc i))) y.2

  pub serves_elements : {S : Type 0} {R : S → A → S → Type 0} {Q : S → A → Type 0} {s : List A} {p : S}
      → ((i : ℕ) → P (get_or s i z)) → ((x : A) (q : S) → R p x q → q ≡ p) → ((x : A) → P x → Q p x) → CallableAtEachTurn list_steps R Q s p
  serves_elements {S} {R} {Q} {s} {p} each stays serves = record {
    at = λ xs t q x u y c e. subst (λ (k : S). Q k x) (sym (same xs q c)) (serves x (subst (λ (l : List A). P (get_or l 0 z)) e (rest xs s t each y 0)));
  }
    where
      same : (xs : List A) (q : S) → FoldsTo R p xs q → q ≡ p
      same [] q c = sym c
      same (x ∷ xs) q c = same xs q (subst (λ (k : S). FoldsTo R k xs q) (stays x c.0 c.1) c.2)

module _ {F A B : Type 0} {g : Mut F (A × Unit {0}) B} (f : F) (xs : List A) (ys : List B) (P : A → B → Type 0) (tells : (x : A) (y : B) (q : F) → Called g f (x, tt) y q → (q ≡ f) × P x y) where
  mapped_from : (k i j : ℕ) (d : A) (e : B) → MapsFrom g f xs ys i k → i ≤ j → j < i + k → P (get_or xs j d) (get_or ys j e)
  mapped_from zero i j d e made h l = absurd (omega arith)
  mapped_from (suc k) i j d e made h l =
      let told : (made.0 ≡ f) × P made.1 made.2 = tells made.1 made.2 made.0 made.5 in
      ⊎_elim
      (λ q. subst (λ (m : ℕ). P (get_or xs m d) (get_or ys m e)) (sym q) (subst (λ (y : B). P (get_or xs i d) y) (sym (made.4.1 e)) (subst (λ (x : A). P x made.2) (sym (made.3.1 d)) told.1)))
      (λ ne. mapped_from k (i + 1) j d e (subst (λ (q : F). MapsFrom g q xs ys (i + 1) k) told.0 made.6) (past i j h ne) (omega arith))
      (cases_eq j i)
    where
      past : (a b : ℕ) → a ≤ b → (b ≡ a → ⊥) → a + 1 ≤ b
      past a b m ne = omega arith

  pub mapped_at : (n : ℕ) → IsMapOf g f xs ys n → (i : ℕ) (d : A) (e : B) → i < n → P (get_or xs i d) (get_or ys i e)
  mapped_at n made i d e l = mapped_from n 0 i d e made.each (omega arith) (omega arith)
