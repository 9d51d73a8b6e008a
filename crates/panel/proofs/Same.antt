-- The cell that the read texts say is the cell of their values.
use Rattle.std.proofs.Common.{◌≡◌, ℕ, zero, suc, List, [], ◌∷◌, map, length, replicate, ℤ, pos, get_or, vec_items, refl, inl, inr, arith}
use Rattle.std.proofs.lemmas.Bool.{cases_lt}
use Rattle.std.proofs.lemmas.List.{get_or_past, get_or-replicate, length-replicate}
use Rattle.formats.specs.RulesText as said
use Rattle.texts.specs.Spans.{part_of}
use Rattle.formats.specs.NetText.{NetText, place_names, move_names}
use Rattle.rules_text.specs.declared.rule.RuleLine.{RuleLine}
use Rattle.rules_text.specs.declared.rule.RulesText.{RulesText}
use Rattle.rules_text.specs.Rules.{LineSays, EachSays, RulesSay, no_rule}
use Rattle.panel.specs.Cells as value
use Rattle.panel.specs.Cells.{Cell, typed_of, plant_net, free_of, cell_of}
use Rattle.panel.specs.Said.{line_rule, cell_read}

module _ (bs : List ℕ) where
  rule_same : (l : RuleLine) (r : said.RuleLine) → LineSays bs l r → line_rule l ≡ typed_of r
  rule_same l r s = λ i. record { weight = λ p. s.weights p i; bound = s.bound i }

  names_same : (ls : List RuleLine) (rs : List said.RuleLine) → EachSays bs ls rs → map (λ (l : RuleLine). part_of bs l.name) ls ≡ map (λ (r : said.RuleLine). r.name) rs
  names_same [] [] s = refl
  names_same [] (r ∷ rs) s = absurd s
  names_same (l ∷ ls) [] s = absurd s
  names_same (l ∷ ls) (r ∷ rs) s = λ i. s.0.name i ∷ names_same ls rs s.1 i

  -- past the end there is a rule that weighs nothing
  none_same : line_rule no_rule ≡ typed_of value.no_rule
  none_same = λ i. record { weight = λ p. weighs p i; bound = pos 0 }
    where
      weighs : (p : ℕ) → get_or (replicate {A = ℤ} 32 (pos 0)) p (pos 0) ≡ pos 0
      weighs p = elim (cases_lt p 32) [ inl l ↦ get_or-replicate 32 p (pos 0) (pos 0) l | inr l ↦ get_or_past (replicate {A = ℤ} 32 (pos 0)) p (pos 0) (let e : length (replicate {A = ℤ} 32 (pos 0)) ≡ 32 = length-replicate {A = ℤ} 32 (pos 0) in omega arith) ]

  each_same : (ls : List RuleLine) (rs : List said.RuleLine) → EachSays bs ls rs → (i : ℕ) → line_rule (get_or ls i no_rule) ≡ typed_of (get_or rs i value.no_rule)
  each_same [] [] s i = none_same
  each_same [] (r ∷ rs) s i = absurd s
  each_same (l ∷ ls) [] s i = absurd s
  each_same (l ∷ ls) (r ∷ rs) s zero = rule_same l r s.0
  each_same (l ∷ ls) (r ∷ rs) s (suc i) = each_same ls rs s.1 i

pub cell_same : (n : NetText) (bs : List ℕ) (r : RulesText) (y : said.RulesText) → RulesSay bs r y → cell_read n bs r ≡ cell_of n y
cell_same n bs r y s = λ i. record {
  places = place_names n;
  moves = move_names n;
  fixed = s.fixed.name i;
  rules = names_same bs (vec_items r.others) y.others s.others i;
  net = plant_net n;
  free = free_of n;
  typed_fixed = rule_same bs r.fixed y.fixed s.fixed i;
  typed = λ k. each_same bs (vec_items r.others) y.others s.others k i;
}
