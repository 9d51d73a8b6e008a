-- What read rules stand for. A read rule has weights where the text has a sum, so that it does not give the text's value back: it says it.
--   LineSays bs l r    the line l, read from the text bs, says the rule r: its name, what its sum weighs at each place, and its bound
--   EachSays bs ls rs  each line of ls says its rule of rs
--   RulesSay bs r x    the read rules r say the rules x
--   rule_titles bs r   the names of the rules, the fixed one first, as parts of the text bs
--   no_rule            what is read past the end of the rules
use Rattle.std.specs.Prelude.{◌≡◌, ℕ, List, [], ◌∷◌, map, pos, replicate, vec_items}
use Rattle.model.specs.Sizes.{most_places}
use Rattle.formats.specs.RulesText as said
use Rattle.texts.specs.Spans.{span, part_of}
use Rattle.rules_text.specs.declared.rule.RuleLine.{RuleLine}
use Rattle.rules_text.specs.declared.rule.RulesText.{RulesText}
use Rattle.rules_text.specs.Sums.{Weighs}

pub record LineSays (bs : List ℕ) (l : RuleLine) (r : said.RuleLine) : Type 0 where
  pub name : part_of bs l.name ≡ r.name
  pub weights : Weighs l.weights r.sum
  pub bound : l.bound ≡ r.bound

abbrev pub EachSays : List ℕ → List RuleLine → List said.RuleLine → Type 0
EachSays bs [] [] = Unit {0}
EachSays bs [] (r ∷ rs) = ⊥
EachSays bs (l ∷ ls) [] = ⊥
EachSays bs (l ∷ ls) (r ∷ rs) = LineSays bs l r × EachSays bs ls rs

pub record RulesSay (bs : List ℕ) (r : RulesText) (x : said.RulesText) : Type 0 where
  pub fixed : LineSays bs r.fixed x.fixed
  pub others : EachSays bs (vec_items r.others) x.others

abbrev pub rule_titles : List ℕ → RulesText → List (List ℕ)
rule_titles bs r = part_of bs r.fixed.name ∷ map (λ (l : RuleLine). part_of bs l.name) (vec_items r.others)

abbrev pub no_rule : RuleLine
no_rule = record { name = span 0 0; weights = replicate most_places (pos 0); bound = pos 0 }
