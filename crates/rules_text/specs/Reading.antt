-- What the reader of rules answers. Throughout, `taken` are the names of the net's places and moves, `ps` those of its places.
--   whole_said f       the number that the field f writes, if it has no more digits than a bound
--   bound_said f       the bound that the field f writes, if it is one
--   Fields ps at n s b l, FixedFields    the line l is what the fields of a rule, or those of a whole first line, say
--   LineRead used ps k at n s b r    r answers the fields of a rule on line k, the first of which starts at `at`, after the names used
--   FixedRead          the same for the shape of a whole first line
--   rule_read          the rules x with the line l, which is line k and starts at byte s; or the refusal of that line
--   Step               what one line does to read rules
--   Located bs n       each name of n starts where the name of its line does: the fixed rule's is in the first line, rule i's in line i + 1
--   Locates            a line keeps the names located
--   LinesRead          what the lines that are still to come do to read rules
--   RulesRead net bs r r is what the rules text bs says of the net
--   Stands bs s l      the name of the line l stands in the text bs as a part of the line that starts at s
use Rattle.std.specs.Prelude.{◌≡◌, ℕ, ◌+◌, ◌<◌, ◌≤◌, cond, List, length, take, drop, ℤ, pos, Some, None, Ok, Err, Option, Result, ◌≢◌, vec_items, slice_index_or}
use Rattle.model.specs.Sizes.{bound_digits, most_places}
use Rattle.model.specs.declared.refusal.Refusal.TheVariants.{TooMany}
use Rattle.formats.specs.Words.{is_numeral, value}
use Rattle.formats.specs.declared.fault.TextFault.{TextFault}
use Rattle.formats.specs.Texts.{first_failed, unless, fault, Proper, written}
use Rattle.formats.specs.Texts.{Refused as Wrong}
use Rattle.formats.specs.NetText.{NetText, names, place_names}
use Rattle.formats.specs.NetClauses.{net_meaning}
use Rattle.formats.specs.Sums.{terms, sum_of}
use Rattle.formats.specs.RulesText as said
use Rattle.formats.specs.RulesText.{RuleShape, is_bound, bound_of, line_checks, checks_of, after_rule, rules_meaning, rules_reader, read_rules}
use Rattle.formats.specs.RulesText.RuleShape.{a_fixed, a_rule, neither}
use Rattle.texts.specs.declared.at.At.{At}
use Rattle.texts.specs.Spans.{span, checked, Told, line_start}
use Rattle.texts.specs.Walking.{read_on}
use Rattle.texts.specs.declared.stop.ReadError.{ReadError}
use Rattle.rules_text.specs.declared.rule.RuleLine.{RuleLine}
use Rattle.rules_text.specs.declared.rule.RulesText.{RulesText}
use Rattle.rules_text.specs.Sums.{Weighs}
use Rattle.rules_text.specs.Rules.{RulesSay, no_rule}

abbrev pub whole_said : List ℕ → Option ℤ
whole_said f = cond (is_numeral bound_digits f) (Some (pos (value f))) None

abbrev pub bound_said : List ℕ → Option ℤ
bound_said f = cond (is_bound f) (Some (bound_of f)) None

-- the line l is what the fields say
abbrev pub Fields : List (List ℕ) → ℕ → List ℕ → List ℕ → List ℕ → RuleLine → Type 0
Fields ps at n s b l = (l.name ≡ span at (length n)) × Weighs l.weights (sum_of ps (terms s)) × (l.bound ≡ bound_of b)

abbrev pub LineRead : List (List ℕ) → List (List ℕ) → ℕ → ℕ → List ℕ → List ℕ → List ℕ → Result RuleLine TextFault → Type 0
LineRead used ps k at n s b (Ok l) = (first_failed (line_checks used ps at n s b) ≡ None) × Fields ps at n s b l
LineRead used ps k at n s b (Err e) = Err e ≡ checked {A = Unit {0}} (line_checks used ps at n s b) k tt

abbrev pub FixedFields : List (List ℕ) → ℕ → RuleShape → RuleLine → Type 0
FixedFields ps at (a_fixed n s b) l = Fields ps (at + 6) n s b l
FixedFields ps at (a_rule n s b) l = ⊥
FixedFields ps at neither l = ⊥

abbrev pub FixedRead : List (List ℕ) → List (List ℕ) → ℕ → ℕ → RuleShape → Result RuleLine TextFault → Type 0
FixedRead taken ps k at sh (Ok l) = (first_failed (checks_of taken ps None at sh) ≡ None) × FixedFields ps at sh l
FixedRead taken ps k at sh (Err e) = Err e ≡ checked {A = Unit {0}} (checks_of taken ps None at sh) k tt

abbrev pub rule_read : List (List ℕ) → List (List ℕ) → said.RulesText → ℕ → ℕ → RuleShape → Result said.RulesText TextFault
rule_read taken ps x k s l = unless (first_failed (checks_of taken ps (Some x) s l)) k (Ok (after_rule ps (Some x) l))

-- r answers the line l, which leads from n to n'
abbrev pub Step : List (List ℕ) → List (List ℕ) → List ℕ → RulesText → RulesText → ℕ → ℕ → RuleShape → Result (Unit {0}) ReadError → Type 0
Step taken ps bs n n' k s l r =
    (x : said.RulesText) → RulesSay bs n x
    → Told r (λ _. (rule_read taken ps x k s l ≡ Ok (after_rule ps (Some x) l)) × RulesSay bs n' (after_rule ps (Some x) l)) (λ f. rule_read taken ps x k s l ≡ Err f)

-- the line goes as far as the text does, so that its bytes can be counted
abbrev pub Stands : List ℕ → ℕ → RuleShape → Type 0
Stands bs s (a_fixed n m b) = (take (length n) (drop (s + 6) bs) ≡ n) × (s + 6 + length n + 1 + length m + 1 + length b ≤ length bs)
Stands bs s (a_rule n m b) = (take (length n) (drop (s + 5) bs) ≡ n) × (s + 5 + length n + 1 + length m + 1 + length b ≤ length bs)
Stands bs s neither = Unit {0}

pub record Located (bs : List ℕ) (n : RulesText) : Type 0 where
  pub fixed : n.fixed.name.start ≡ 6
  pub others : (i : ℕ) → i < length (vec_items n.others) → (slice_index_or (vec_items n.others) i no_rule).name.start ≡ line_start bs (i + 1) + 5

-- one line more, which starts at s: n' is located if n is
abbrev pub Locates : List ℕ → RulesText → RulesText → ℕ → Type 0
Locates bs n n' s = Located bs n → line_start bs (length (vec_items n.others) + 1) ≡ s → Located bs n' × (length (vec_items n'.others) ≡ length (vec_items n.others) + 1)

-- r answers the lines ls, which are the last of the text bs; they lead from n to n'
abbrev pub LinesRead : List (List ℕ) → List (List ℕ) → List ℕ → RulesText → RulesText → List (At × List ℕ) → Result (Unit {0}) ReadError → Type 0
LinesRead taken ps bs n n' ls r =
    (x : said.RulesText) → RulesSay bs n x
    → Told r (λ _. (y : said.RulesText) × (read_on (rules_reader taken ps) (Some x) (length bs) ls ≡ Ok y) × RulesSay bs n' y)
    (λ f. read_on (rules_reader taken ps) (Some x) (length bs) ls ≡ Err f)

-- r is what the text bs says of the net: by the order of checks, and in the format's own terms
pub record RulesRead (net : NetText) (bs : List ℕ) (r : Result RulesText ReadError) : Type 0 where
  -- a net of more places than there may be, which no net text says, has no rules
  pub crowded : most_places < length net.places → Told r (λ y. ⊥) (λ f. f ≡ fault TooMany 0 0)
  -- the answer that the order of checks gives
  pub answer : length net.places ≤ most_places
      → Told r (λ y. (x : said.RulesText) × (read_rules (names net) (place_names net) bs ≡ Ok x) × RulesSay bs y x)
      (λ f. read_rules (names net) (place_names net) bs ≡ Err f)
  -- rules are answered just where they are proper and the text is those rules written down
  pub accepted : Proper net_meaning net
      → Told r (λ y. (x : said.RulesText) × Proper (rules_meaning (names net) (place_names net)) x
      × (bs ≡ written (rules_meaning (names net) (place_names net)) x) × RulesSay bs y x)
      (λ f. (x : said.RulesText) → Proper (rules_meaning (names net) (place_names net)) x
      → bs ≢ written (rules_meaning (names net) (place_names net)) x)
  -- a text is refused just for the first thing that is wrong with it
  pub refused : Proper net_meaning net
      → Told r (λ y. (f : TextFault) → Wrong (rules_meaning (names net) (place_names net)) bs f → ⊥)
      (λ f. Wrong (rules_meaning (names net) (place_names net)) bs f
      × ((g : TextFault) → Wrong (rules_meaning (names net) (place_names net)) bs g → g ≡ f))
  -- each name is the part of the text where its line has it
  pub located : Told r (λ y. Located bs y) (λ f. Unit {0})
