-- Where the fields of a net text's line stand in the text.
use Rattle.std.proofs.Common.{◌≡◌, ℕ, ◌+◌, ◌≤◌, List, ◌∷◌, ◌++◌, length, drop, codes, sym, refl, ap, ◌∙◌, subst, inl, inr, arith}
use Rattle.std.proofs.lemmas.List.{length-append, length-drop}
use Rattle.formats.specs.Words.{joined, fields}
use Rattle.formats.specs.NetClauses.{Shape, shape}
use Rattle.formats.specs.NetClauses.Shape.{a_plant, a_place, a_move, an_arc, no_record}
use Rattle.formats.proofs.NetSteps.{fields_of, shape_fields}
use Rattle.formats.proofs.Pieces.{joined_fields}
use Rattle.texts.proofs.Standing.{named_at}
use Rattle.net_text.specs.Reading.{Stands}

-- ---- each kind of line
joined_stands : (l : Shape) (bs rest : List ℕ) (s e : ℕ) → drop s bs ≡ joined (fields_of l) ++ rest → length (joined (fields_of l)) + s ≡ e → e ≤ length bs → Stands bs s l
joined_stands (a_plant k) bs rest s e q n h = omega arith
joined_stands (a_place nm t l) bs rest s e q n h = (
  named_at bs (codes "place") nm (9 ∷ (t ++ (9 ∷ l))) rest s 6 q refl,
  omega (arith, length-append nm (9 ∷ (t ++ (9 ∷ l))), length-append t (9 ∷ l)),
)
joined_stands (a_move nm k) bs rest s e q n h = (named_at bs (codes "move") nm (9 ∷ k) rest s 5 q refl, omega (arith, length-append nm (9 ∷ k)))
joined_stands (an_arc p m t g) bs rest s e q n h =
    omega (arith, length-append p (9 ∷ (m ++ (9 ∷ (t ++ (9 ∷ g))))), length-append m (9 ∷ (t ++ (9 ∷ g))), length-append t (9 ∷ g))
joined_stands no_record bs rest s e q n h = tt

-- the line that stands at s
pub line_stands : (bs : List ℕ) (s : ℕ) (line more : List ℕ) → drop s bs ≡ line ++ (10 ∷ more) → Stands bs s (shape (fields line))
line_stands bs s line more there =
    elim (shape_fields (fields line)) [
      | inl q ↦ subst (λ (l : Shape). Stands bs s l) (sym q) tt
      | inr q ↦
          let whole : joined (fields_of (shape (fields line))) ≡ line = ap joined (sym q) ∙ joined_fields line in
          joined_stands (shape (fields line)) bs (10 ∷ more) s (length line + s) (there ∙ ap (λ (z : List ℕ). z ++ (10 ∷ more)) (sym whole)) (omega (arith, ap length whole))
          (omega (arith, length-drop s bs, ap length there, length-append line (10 ∷ more)))
    ]
