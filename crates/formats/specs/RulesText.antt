-- The rules text: its value, the lines that are written for it, which values are right, what is asked of each line, and how it is read.
-- It is read against a net: `taken` are the names of the net's places and moves, `ps` those of its places.
--   RuleLine         a rule: its name, its sum, its bound
--   RulesText        the fixed rule and the others, in the order of their lines
--   Bound f          f is the decimal writing of a number of up to 6 digits, with `-` before it if negative
--   rows, Right      as of the net text
--   line_clauses     what is asked of the fields of a rule, the first of which starts at the byte `at`
use Rattle.std.specs.Prelude.{◌≡◌, ℕ, ◌+◌, ◌^◌, ◌<◌, ◌≤◌, Bool, true, false, cond, ◌&&◌, List, [], ◌∷◌, ◌++◌, map, length, ℤ, pos, neg_ℤ, Some, None, codes, Option, Result, ◌==◌, nat_le, nat_lt, unsigned_abs}
use Rattle.std.specs.Fmt.{signed_decimal}
use Rattle.std.specs.List.{AllByRecursion}
use Rattle.std.specs.Str.{bytes_eq}
use Rattle.model.specs.Sizes.{most_rules, bound_digits}
use Rattle.model.specs.declared.refusal.Refusal.TheVariants.{NoRecord, Field, NameTaken, TooMany}
use Rattle.formats.specs.declared.fault.TextFault.{TextFault}
use Rattle.formats.specs.Words.{IsName, is_name, is_new, is_numeral, value, NewName, AllDifferent}
use Rattle.formats.specs.Texts.{Check, check, Clause, clause, Reader, Meaning, read_text}
use Rattle.formats.specs.Sums.{Part, ProperSum, sum_written, terms, lead_length, sum_of, sum_checks, sum_clauses}

pub record RuleLine : Type 0 where
  pub name : List ℕ
  pub sum : List Part
  pub bound : ℤ

pub record RulesText : Type 0 where
  pub fixed : RuleLine
  pub others : List RuleLine

abbrev pub all_lines : RulesText → List RuleLine
all_lines x = x.fixed ∷ x.others

abbrev pub rule_names : RulesText → List (List ℕ)
rule_names x = map (λ (r : RuleLine). r.name) (all_lines x)

-- ---- how it is written: the fields of each line
abbrev pub line_row : List (List ℕ) → List ℕ → RuleLine → List (List ℕ)
line_row ps word r = word ∷ r.name ∷ sum_written ps r.sum ∷ signed_decimal r.bound ∷ []

abbrev pub rule_rows : List (List ℕ) → RulesText → List (List (List ℕ))
rule_rows ps x = line_row ps (codes "fixed") x.fixed ∷ map (line_row ps (codes "rule")) x.others

-- ---- which values are right
abbrev pub RightLine : List (List ℕ) → List (List ℕ) → RuleLine → Type 0
RightLine taken ps r = IsName r.name × NewName taken r.name × ProperSum ps r.sum × (unsigned_abs r.bound < 10 ^ bound_digits)

pub record RightRules (taken ps : List (List ℕ)) (x : RulesText) : Type 0 where
  pub few : length x.others ≤ most_rules
  pub each : AllByRecursion (RightLine taken ps) (all_lines x)
  pub different : AllDifferent (rule_names x)

-- ---- what is asked of each line
abbrev pub Bound : List ℕ → Type 0
Bound f = (z : ℤ) × (unsigned_abs z < 10 ^ bound_digits) × (f ≡ signed_decimal z)

pub data RuleShape : Type 0 where
  a_fixed : List ℕ → List ℕ → List ℕ → RuleShape
  a_rule : List ℕ → List ℕ → List ℕ → RuleShape
  neither : RuleShape

abbrev pub rule_shape : List (List ℕ) → RuleShape
rule_shape [] = neither
rule_shape (w ∷ []) = neither
rule_shape (w ∷ a ∷ []) = neither
rule_shape (w ∷ a ∷ b ∷ []) = neither
rule_shape (w ∷ a ∷ b ∷ c ∷ []) = cond (bytes_eq w (codes "fixed")) (a_fixed a b c) (cond (bytes_eq w (codes "rule")) (a_rule a b c) neither)
rule_shape (w ∷ a ∷ b ∷ c ∷ d ∷ fs) = neither

abbrev pub line_clauses : List (List ℕ) → List (List ℕ) → ℕ → List ℕ → List ℕ → List ℕ → List Clause
line_clauses used ps at n s b =
    clause (IsName n) Field at
    ∷ clause (NewName used n) NameTaken at
    ∷ (sum_clauses ps (at + length n + 1 + lead_length s) [] (terms s)
    ++ (clause (Bound b) Field (at + length n + 1 + length s + 1)
    ∷ []))

abbrev pub clauses_of : List (List ℕ) → List (List ℕ) → Option RulesText → ℕ → RuleShape → List Clause
clauses_of taken ps None at (a_fixed n s b) = line_clauses taken ps (at + 6) n s b
clauses_of taken ps None at (a_rule n s b) = clause ⊥ NoRecord at ∷ []
clauses_of taken ps None at neither = clause ⊥ NoRecord at ∷ []
clauses_of taken ps (Some x) at (a_fixed n s b) = clause ⊥ NoRecord at ∷ []
clauses_of taken ps (Some x) at (a_rule n s b) = clause (length x.others < most_rules) TooMany at ∷ line_clauses (taken ++ rule_names x) ps (at + 5) n s b
clauses_of taken ps (Some x) at neither = clause ⊥ NoRecord at ∷ []

abbrev pub rules_meaning : List (List ℕ) → List (List ℕ) → Meaning RulesText
rules_meaning taken ps = record { clauses = λ s at fs. clauses_of taken ps s at (rule_shape fs); rows = rule_rows ps; Right = RightRules taken ps; Complete = λ x. Unit {0} }

-- ---- how it is read
abbrev pub is_bound : List ℕ → Bool
is_bound [] = false
is_bound (c ∷ cs) = cond (c == 45) (is_numeral bound_digits cs && nat_le 1 (value cs)) (is_numeral bound_digits (c ∷ cs))

abbrev pub bound_of : List ℕ → ℤ
bound_of [] = pos 0
bound_of (c ∷ cs) = cond (c == 45) (neg_ℤ (pos (value cs))) (pos (value (c ∷ cs)))

abbrev pub line_of : List (List ℕ) → List ℕ → List ℕ → List ℕ → RuleLine
line_of ps n s b = record { name = n; sum = sum_of ps (terms s); bound = bound_of b }

abbrev pub line_checks : List (List ℕ) → List (List ℕ) → ℕ → List ℕ → List ℕ → List ℕ → List Check
line_checks used ps at n s b =
    check (is_name n) Field at
    ∷ check (is_new used n) NameTaken at
    ∷ (sum_checks ps (at + length n + 1 + lead_length s) [] (terms s)
    ++ (check (is_bound b) Field (at + length n + 1 + length s + 1)
    ∷ []))

abbrev pub checks_of : List (List ℕ) → List (List ℕ) → Option RulesText → ℕ → RuleShape → List Check
checks_of taken ps None at (a_fixed n s b) = line_checks taken ps (at + 6) n s b
checks_of taken ps None at (a_rule n s b) = check false NoRecord at ∷ []
checks_of taken ps None at neither = check false NoRecord at ∷ []
checks_of taken ps (Some x) at (a_fixed n s b) = check false NoRecord at ∷ []
checks_of taken ps (Some x) at (a_rule n s b) = check (nat_lt (length x.others) most_rules) TooMany at ∷ line_checks (taken ++ rule_names x) ps (at + 5) n s b
checks_of taken ps (Some x) at neither = check false NoRecord at ∷ []

abbrev pub opened : RuleLine → RulesText
opened r = record { fixed = r; others = [] }

abbrev pub add_rule : RulesText → RuleLine → RulesText
add_rule x r = record { fixed = x.fixed; others = x.others ++ (r ∷ []) }

abbrev pub after_rule : List (List ℕ) → Option RulesText → RuleShape → RulesText
after_rule ps None (a_fixed n s b) = opened (line_of ps n s b)
after_rule ps None (a_rule n s b) = opened (line_of ps n s b)
after_rule ps None neither = opened (line_of ps [] [] [])
after_rule ps (Some x) (a_fixed n s b) = x
after_rule ps (Some x) (a_rule n s b) = add_rule x (line_of ps n s b)
after_rule ps (Some x) neither = x

abbrev pub rules_reader : List (List ℕ) → List (List ℕ) → Reader RulesText
rules_reader taken ps = record { checks = λ s at fs. checks_of taken ps s at (rule_shape fs); after = λ s fs. after_rule ps s (rule_shape fs); is_whole = λ x. true }

abbrev pub read_rules : List (List ℕ) → List (List ℕ) → List ℕ → Result RulesText TextFault
read_rules taken ps bs = read_text (rules_reader taken ps) bs
