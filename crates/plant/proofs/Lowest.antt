-- The lowest of some numbers that passes a test.
use Rattle.std.proofs.Common.{◌≡◌, ℕ, zero, suc, ◌+◌, ◌-◌, ◌<◌, ◌≤◌, Bool, true, false, cond, Some, None, Option, MatchOption, sym, refl, ap, ◌∙◌, inl, inr, subst, add-one, arith}
use Rattle.std.proofs.lemmas.Bool.{cond-true, cond-false, cases_eq}
use Rattle.model.specs.Plant.{lowest}
use Rattle.plant.specs.Searches.{Gives}

-- none below i passes: the lowest of all is the lowest from i on
abbrev pub Sought : (ℕ → Bool) → ℕ → ℕ → Type 0
Sought f n i = lowest f i (n - i) ≡ lowest f 0 n

module _ (f : ℕ → Bool) (n i : ℕ) (inv : Sought f n i) (lt : i < n) where
  more : n - i ≡ suc (n - (i + 1))
  more = omega arith

  here : lowest f 0 n ≡ cond (f i) (Some i) (lowest f (i + 1) (n - (i + 1)))
  here = sym inv ∙ ap (lowest f i) more ∙ ap (λ (j : ℕ). cond (f i) (Some i) (lowest f j (n - (i + 1)))) (sym (add-one i))

  pub found_here : f i ≡ true → lowest f 0 n ≡ Some i
  found_here e = here ∙ cond-true _ _ _ e

  pub sought_on : f i ≡ false → Sought f n (i + 1)
  sought_on e = sym (here ∙ cond-false _ _ _ e)

pub sought_first : (f : ℕ → Bool) (n : ℕ) → Sought f n 0
sought_first f n = ap (lowest f 0) (omega arith)

pub found_nowhere : (f : ℕ → Bool) (n i : ℕ) → Sought f n i → n ≤ i → lowest f 0 n ≡ None
found_nowhere f n i inv h = sym inv ∙ ap (lowest f i) (none n i h)
  where
    none : (m k : ℕ) → m ≤ k → m - k ≡ 0
    none m k l = omega arith

reached : (f : ℕ → Bool) (n q : ℕ) → q ≤ n → ((p : ℕ) → p < q → f p ≡ false) → Sought f n q
reached f n zero h below = sought_first f n
reached f n (suc q) h below =
    subst (Sought f n) (add-one q) (sought_on f n q (reached f n q (omega arith) (λ p l. below p (omega arith))) h (below q (omega arith)))

-- none below q passes, and q does
pub lowest_at : (f : ℕ → Bool) (n q : ℕ) → q < n → ((p : ℕ) → p < q → f p ≡ false) → f q ≡ true → lowest f 0 n ≡ Some q
lowest_at f n q lt below here = found_here f n q (reached f n q (omega arith) below) lt here

pub lowest_none : (f : ℕ → Bool) (n : ℕ) → ((p : ℕ) → p < n → f p ≡ false) → lowest f 0 n ≡ None
lowest_none f n below = found_nowhere f n n (reached f n n (omega arith) below) (omega arith)

-- what was found by the answers of a test, which are those of f
pub lowest_told : {P : ℕ → Bool → Type 0} (f : ℕ → Bool) (n : ℕ) (r : Option ℕ) → Gives P n f
    → MatchOption r ((k : ℕ) → 0 ≤ k → k < n → P k false) (λ i. (0 ≤ i) × (i < n) × P i true × ((k : ℕ) → 0 ≤ k → k < i → P k false)) → r ≡ lowest f 0 n
lowest_told f n None tells none = sym (lowest_none f n (λ p l. sym (tells p false l (none p (omega arith) l))))
lowest_told f n (Some i) tells found =
    sym (lowest_at f n i found.1 (λ p l. sym (tells p false (omega (arith, found.1)) (found.3 p (omega arith) l))) (sym (tells i true found.1 found.2)))

-- none was found: none passes
pub none_passes : (f : ℕ → Bool) (i k : ℕ) → lowest f i k ≡ None → (p : ℕ) → i ≤ p → p < i + k → f p ≡ false
none_passes f i zero e p h l = absurd (omega arith)
none_passes f i (suc k) e p h l = go (f i) refl e (λ r m. none_passes f (suc i) k r p m (omega arith))
  where
    above : (a b : ℕ) → a ≤ b → (a ≡ b → ⊥) → suc a ≤ b
    above a b m ne = omega arith

    go : (b : Bool) → f i ≡ b → cond b (Some i) (lowest f (suc i) k) ≡ None → (lowest f (suc i) k ≡ None → suc i ≤ p → f p ≡ false) → f p ≡ false
    go true q r on = let z : ◌≡◌ {A = ℕ} 0 1 = cc in absurd (omega arith)
    go false q r on = elim (cases_eq i p) [ inl s ↦ ap f (sym s) ∙ q | inr s ↦ on r (above i p h s) ]
