-- Where the fields of a rules text's line stand in the text.
use Rattle.std.proofs.Common.{◌≡◌, ℕ, ◌+◌, ◌≤◌, List, [], ◌∷◌, ◌++◌, length, drop, codes, sym, refl, ap, ◌∙◌, subst, inl, inr, arith}
use Rattle.std.proofs.lemmas.List.{length-append, length-drop}
use Rattle.formats.specs.Words.{joined, fields}
use Rattle.formats.specs.RulesText.{RuleShape, rule_shape}
use Rattle.formats.specs.RulesText.RuleShape.{a_fixed, a_rule, neither}
use Rattle.formats.proofs.Pieces.{joined_fields}
use Rattle.formats.proofs.RulesLaws.{line_fields, shape_is}
use Rattle.texts.proofs.Standing.{named_at}
use Rattle.rules_text.specs.Reading.{Stands}

-- ---- a line that is a whole text's, from byte s on
joined_stands : (l : RuleShape) (bs rest : List ℕ) (s e : ℕ) → drop s bs ≡ joined (line_fields l) ++ rest → length (joined (line_fields l)) + s ≡ e → e ≤ length bs → Stands bs s l
joined_stands (a_fixed n m b) bs rest s e q k h = (
  named_at bs (codes "fixed") n (9 ∷ (m ++ (9 ∷ b))) rest s 6 q refl,
  omega (arith, length-append n (9 ∷ (m ++ (9 ∷ b))), length-append m (9 ∷ b)),
)
joined_stands (a_rule n m b) bs rest s e q k h = (
  named_at bs (codes "rule") n (9 ∷ (m ++ (9 ∷ b))) rest s 5 q refl,
  omega (arith, length-append n (9 ∷ (m ++ (9 ∷ b))), length-append m (9 ∷ b)),
)
joined_stands neither bs rest s e q k h = tt

-- the line that stands at s
pub line_stands : (bs : List ℕ) (s : ℕ) (line more : List ℕ) → drop s bs ≡ line ++ (10 ∷ more) → Stands bs s (rule_shape (fields line))
line_stands bs s line more there =
    elim (shape_is (fields line)) [
      | inl q ↦ subst (λ (l : RuleShape). Stands bs s l) (sym q) tt
      | inr q ↦
          let whole : joined (line_fields (rule_shape (fields line))) ≡ line = ap joined (sym q) ∙ joined_fields line in
          joined_stands (rule_shape (fields line)) bs (10 ∷ more) s (length line + s) (there ∙ ap (λ (z : List ℕ). z ++ (10 ∷ more)) (sym whole)) (omega (arith, ap length whole))
          (omega (arith, length-drop s bs, ap length there, length-append line (10 ∷ more)))
    ]

-- a line of its own: how long it is
pub fixed_length : (l n m b : List ℕ) → rule_shape (fields l) ≡ a_fixed n m b → length l ≡ 6 + length n + 1 + length m + 1 + length b
fixed_length l n m b e = elim (shape_is (fields l)) [
  | inl q ↦ let z : a_fixed n m b ≡ neither = sym e ∙ q in absurd (cc)
  | inr q ↦
      let whole : joined (codes "fixed" ∷ n ∷ m ∷ b ∷ []) ≡ l = ap (λ (s : RuleShape). joined (line_fields s)) (sym e) ∙ ap joined (sym q) ∙ joined_fields l in
      omega (arith, ap length whole, length-append n (9 ∷ (m ++ (9 ∷ b))), length-append m (9 ∷ b))
]
