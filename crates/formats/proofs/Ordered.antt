-- Checks and clauses that say the same, row by row, give the same first fault.
use Rattle.std.proofs.Common.{◌≡◌, ℕ, Bool, true, false, cond, List, [], ◌∷◌, ◌++◌, Some, None, Decides, sym, refl, ap, ◌∙◌, inl, inr}
use Rattle.std.proofs.lemmas.Bool.{cond-true, cond-false, false_from_ne_true}
use Rattle.std.proofs.lemmas.Option.{none-some}
use Rattle.std.proofs.lemmas.Bool.Decides.{not_from_Decides}
use Rattle.model.specs.declared.refusal.Refusal.{Refusal}
use Rattle.formats.specs.Texts.{Check, first_failed, Clause, Keeps, Breaks}

abbrev pub Agree : List Check → List Clause → Type 0
Agree [] [] = Unit {0}
Agree [] (r ∷ rs) = ⊥
Agree (c ∷ cs) [] = ⊥
Agree (c ∷ cs) (r ∷ rs) = Decides c.passes r.asks × (c.refusal ≡ r.refusal) × (c.byte ≡ r.byte) × Agree cs rs

-- ---- from the checks to the clauses, and back
pub keeps : (cs : List Check) (rs : List Clause) → Agree cs rs → first_failed cs ≡ None → Keeps rs
keeps [] [] a e = tt
keeps [] (r ∷ rs) a e = absurd a
keeps (c ∷ cs) [] a e = absurd a
keeps (c ∷ cs) (r ∷ rs) a e = go c.passes refl e (λ q. keeps cs rs a.3 q)
  where
    go : (b : Bool) → c.passes ≡ b → cond b (first_failed cs) (Some c) ≡ None → (first_failed cs ≡ None → Keeps rs) → r.asks × Keeps rs
    go true p q k = (a.0.0 p, k q)
    go false p q k = absurd (none-some c (sym q))

pub passes : (cs : List Check) (rs : List Clause) → Agree cs rs → Keeps rs → first_failed cs ≡ None
passes [] [] a k = refl
passes [] (r ∷ rs) a k = absurd a
passes (c ∷ cs) [] a k = absurd a
passes (c ∷ cs) (r ∷ rs) a k = cond-true _ (first_failed cs) (Some c) (a.0.1 k.0) ∙ passes cs rs a.3 k.1

pub breaks : (cs : List Check) (rs : List Clause) (d : Check) → Agree cs rs → first_failed cs ≡ Some d → Breaks rs d.refusal d.byte
breaks [] [] d a e = absurd (none-some d e)
breaks [] (r ∷ rs) d a e = absurd a
breaks (c ∷ cs) [] d a e = absurd a
breaks (c ∷ cs) (r ∷ rs) d a e = go c.passes refl e (λ q. breaks cs rs d a.3 q)
  where
    go : (b : Bool) → c.passes ≡ b → cond b (first_failed cs) (Some c) ≡ Some d → (first_failed cs ≡ Some d → Breaks rs d.refusal d.byte) → Breaks (r ∷ rs) d.refusal d.byte
    go true p q k = inr (a.0.0 p, k q)
    go false p q k =
        let same : c ≡ d = cc in
        inl (not_from_Decides c.passes a.0 p, sym a.1 ∙ ap (λ (x : Check). x.refusal) same, sym a.2 ∙ ap (λ (x : Check). x.byte) same)

pub fails : (cs : List Check) (rs : List Clause) (n : Refusal) (i : ℕ) → Agree cs rs → Breaks rs n i → (d : Check) × (first_failed cs ≡ Some d) × (d.refusal ≡ n) × (d.byte ≡ i)
fails [] [] n i a b = absurd b
fails [] (r ∷ rs) n i a b = absurd a
fails (c ∷ cs) [] n i a b = absurd a
fails (c ∷ cs) (r ∷ rs) n i a (inl b) = (c, cond-false _ (first_failed cs) (Some c) (false_from_ne_true c.passes (λ e. b.0 (a.0.0 e))), a.1 ∙ b.1, a.2 ∙ b.2)
fails (c ∷ cs) (r ∷ rs) n i a (inr b) = let f = fails cs rs n i a.3 b.1 in (f.0, cond-true _ (first_failed cs) (Some c) (a.0.1 b.0) ∙ f.1, f.2, f.3)

pub agree_append : (cs ds : List Check) (rs qs : List Clause) → Agree cs rs → Agree ds qs → Agree (cs ++ ds) (rs ++ qs)
agree_append [] ds [] qs a b = b
agree_append [] ds (r ∷ rs) qs a b = absurd a
agree_append (c ∷ cs) ds [] qs a b = absurd a
agree_append (c ∷ cs) ds (r ∷ rs) qs a b = (a.0, a.1, a.2, agree_append cs ds rs qs a.3 b)
