-- What a plant answers and does: the firing rule for nets with limits. A plant is a net and the tokens now at each place.
--   Answer          a call's answer: accepted, or refused with a fault
--   accepted        whether an answer accepts
--   fault_of        the fault of a move, for no place
--   fault_at        the fault of a move at a place, with the layer and row of that place
--   setting_fault   the fault of a setting, which has neither move nor place
--   spot_place      the place of a spot, if there is one
--   named_place     the place that an answer names, if it names one
--   lowest          the lowest of the numbers i, i + 1, .. (k of them) that passes a test
--   refuse_at       refused at the place that was found, else accepted
--   refuse_unless   accepted if the test holds, else refused
--   else_by         an earlier refusal stands, else the next check answers
--   short_place     the lowest place that has fewer tokens than the move takes
--   over_place      the lowest place that would go over its limit, were so many tokens added to each
--   known           refused for a missing move
--   begin_answer, finish_answer, back_answer   what begin, finish and back answer
--   begun, finished, gone_back                 the tokens at each place after it
use Rattle.std.specs.Prelude.{ℕ, zero, suc, ◌+◌, ◌-◌, Bool, true, false, cond, ltb, Some, None, Ok, Err, Option, Result, nat_lt}
use Rattle.model.specs.declared.refusal.Refusal.{Refusal}
use Rattle.model.specs.declared.refusal.Refusal.TheVariants.{NoMove, Short, OverLimit}
use Rattle.model.specs.declared.fault.Spot.{Spot}
use Rattle.model.specs.declared.fault.Fault.{Fault}
use Rattle.model.specs.Net.{Net}

abbrev pub Answer : Type 0
Answer = Result (Unit {0}) Fault

abbrev pub accepted : Answer → Bool
accepted (Ok u) = true
accepted (Err f) = false

abbrev pub fault_of : Refusal → ℕ → Fault
fault_of why t = record { refusal = why; transition = Some t; spot = None }

abbrev pub fault_at : Net → Refusal → ℕ → ℕ → Fault
fault_at n why t p = record { refusal = why; transition = Some t; spot = Some (record { place = p; layer = n.layer p; row = n.row p }) }

abbrev pub setting_fault : Refusal → Fault
setting_fault why = record { refusal = why; transition = None; spot = None }

abbrev pub spot_place : Option Spot → Option ℕ
spot_place (Some s) = Some s.place
spot_place None = None

abbrev pub named_place : Answer → Option ℕ
named_place (Ok u) = None
named_place (Err f) = spot_place f.spot

abbrev pub lowest : (ℕ → Bool) → ℕ → ℕ → Option ℕ
lowest f i zero = None
lowest f i (suc k) = cond (f i) (Some i) (lowest f (suc i) k)

abbrev pub refuse_at : (ℕ → Fault) → Option ℕ → Answer
refuse_at f (Some p) = Err (f p)
refuse_at f None = Ok tt

abbrev pub refuse_unless : Bool → Fault → Answer
refuse_unless true f = Ok tt
refuse_unless false f = Err f

infixr 5 ◌else_by◌
abbrev pub ◌else_by◌ : Answer → Answer → Answer
Err f else_by b = Err f
Ok u else_by b = b

abbrev pub short_place : Net → (ℕ → ℕ) → ℕ → Option ℕ
short_place n free t = lowest (λ p. ltb (free p) (n.take p t)) 0 n.places

abbrev pub over_place : Net → (ℕ → ℕ) → (ℕ → ℕ) → Option ℕ
over_place n free more = lowest (λ p. ltb (n.limit p) (free p + more p)) 0 n.places

abbrev pub known : Net → ℕ → Answer
known n t = refuse_unless (nat_lt t n.moves) (fault_of NoMove t)

abbrev pub begin_answer : Net → (ℕ → ℕ) → ℕ → Answer
begin_answer n free t = known n t else_by refuse_at (fault_at n Short t) (short_place n free t)

abbrev pub finish_answer : Net → (ℕ → ℕ) → ℕ → Answer
finish_answer n free t = known n t else_by refuse_at (fault_at n OverLimit t) (over_place n free (λ p. n.give p t))

abbrev pub back_answer : Net → (ℕ → ℕ) → ℕ → Answer
back_answer n free t = known n t else_by refuse_at (fault_at n OverLimit t) (over_place n free (λ p. n.take p t))

abbrev pub begun : Net → (ℕ → ℕ) → ℕ → ℕ → ℕ
begun n free t p = cond (accepted (begin_answer n free t)) (free p - n.take p t) (free p)

abbrev pub finished : Net → (ℕ → ℕ) → ℕ → ℕ → ℕ
finished n free t p = cond (accepted (finish_answer n free t)) (free p + n.give p t) (free p)

abbrev pub gone_back : Net → (ℕ → ℕ) → ℕ → ℕ → ℕ
gone_back n free t p = cond (accepted (back_answer n free t)) (free p + n.take p t) (free p)
