-- Rules by their names.
--   named_titles n     the names of read rules, the fixed one first, as parts of their text
--   rule_at i          the rule whose name is the name i of the rules, the fixed one's name being name 0
--   rule_found ns n    the rule of the name n, if one of the names ns of the rules is n
use Rattle.std.specs.Prelude.{ℕ, zero, suc, List, Option}
use Rattle.std.specs.Option.{option_map}
use Rattle.texts.specs.Spans.{found}
use Rattle.rules_text.specs.declared.names.NamedRules.{NamedRules}
use Rattle.rules_text.specs.declared.names.Rule.{Rule}
use Rattle.rules_text.specs.declared.names.Rule.TheVariants.{Fixed, Row}
use Rattle.rules_text.specs.Rules.{rule_titles}

abbrev pub named_titles : NamedRules → List (List ℕ)
named_titles n = rule_titles n.text.now n.rules.now

abbrev pub rule_at : ℕ → Rule
rule_at zero = Fixed
rule_at (suc r) = Row r

abbrev pub rule_found : List (List ℕ) → List ℕ → Option Rule
rule_found ns n = option_map rule_at (found ns n)
