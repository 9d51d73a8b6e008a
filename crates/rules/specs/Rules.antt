-- The model's values of typed and worked rules, and what working promises.
--   rule_of          the rule that a typed rule is
--   worked_of        the worked rule that it is
--   answer_of        what working answered, by value
--   Better           what a worked rule is to the typed one: L' = R1 + r·L and b' = r·(b + 1) − 1; no uncontrollable move raises it; and
--                    tokens that keep it keep the typed one
--   Works            r is what working the typed rule over the net n answers
use Rattle.std.specs.Prelude.{◌≡◌, ℕ, pos, ◌≤ℤ◌, Ok, Err, Result, slice_index_or}
use Rattle.model.specs.declared.fault.Fault.{Fault}
use Rattle.model.specs.Net.{Net}
use Rattle.model.specs.Rule.{Rule, Worked, weighted_free}
use Rattle.model.specs.Working.{work}
use Rattle.model.specs.Rounds.{Quiet, WorkSays}
use Rattle.model.specs.Laws.{SameGround, Derived}
use Rattle.rules.specs.declared.typed.TypedRule.{TypedRule}
use Rattle.rules.specs.declared.worked.WorkedRule.{WorkedRule}

abbrev pub rule_of : TypedRule → Rule
rule_of r = record { weight = λ p. slice_index_or r.weights p (pos 0); bound = r.bound }

abbrev pub worked_of : WorkedRule → Worked
worked_of w = record { weight = λ p. slice_index_or w.weights p (pos 0); bound = w.bound; rounds = w.rounds }

abbrev pub answer_of : Result WorkedRule Fault → Result Worked Fault
answer_of (Ok w) = Ok (worked_of w)
answer_of (Err f) = Err f

pub record Better (n : Net) (typed : Rule) (w : Worked) : Type 0 where
  pub derived : Derived n.ground_places typed w
  pub quiet : Quiet n w
  pub implies : (m : ℕ → ℕ) → weighted_free n w.weight m ≤ℤ w.bound → weighted_free n typed.weight m ≤ℤ typed.bound

pub record Works (n : Net) (typed : Rule) (r : Result Worked Fault) : Type 0 where
  -- the answer that working's rounds give
  pub answer : r ≡ work n typed
  -- without its steps: a chain of rounds and why it ended
  pub says : WorkSays n typed r
  -- what the worked rule is good for
  pub better : (w : Worked) → r ≡ Ok w → Better n typed w
  -- working looks at the ground part of the net alone
  pub on_ground : (m : Net) → SameGround n m → work m typed ≡ r
