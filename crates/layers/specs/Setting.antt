-- Setting a row to a rule.
--   plain            an answer without the value that it brings
--   Checks           a is the rule that the row r of a pile's top layer would be set to, or why it would not
--   SetTo            q is the pile p after its row r was set to the typed rule: what the rule was worked to, and the row in the
--                    subject's terms
use Rattle.std.specs.Prelude.{◌≡◌, ℕ, Ok, Err, Result}
use Rattle.model.specs.declared.fault.Fault.{Fault}
use Rattle.model.specs.Plant.{Answer}
use Rattle.model.specs.Rule.{Rule, Worked}
use Rattle.model.specs.Working.{work}
use Rattle.model.specs.Layer.{Pile, row_place, with_rule, top_answer}
use Rattle.model.specs.Laws.{JustSet}

abbrev pub plain : {X : Type 0} → Result X Fault → Answer
plain (Ok x) = Ok tt
plain (Err f) = Err f

pub record Checks (p : Pile) (r : ℕ) (typed : Rule) (a : Result Worked Fault) : Type 0 where
  pub answer : plain a ≡ top_answer p r typed
  pub works : (w : Worked) → a ≡ Ok w → work p.below typed ≡ Ok w

pub record SetTo (p q : Pile) (r : ℕ) (typed : Rule) : Type 0 where
  pub worked : Worked
  pub works : work p.below typed ≡ Ok worked
  pub pile : q ≡ with_rule p r worked
  -- arcs −L'·D, one way only; the weighted tokens and its own add up to the bound; every other place is as it was
  pub row : JustSet p q (row_place p r) worked
