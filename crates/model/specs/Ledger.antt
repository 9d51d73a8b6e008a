-- The ledger: a pile and the grants that are open on it. Its five calls, what each answers, and what stands after.
--   open_count     the open grants of all moves
--   taken          what the open grants have taken from a place
--   reserved       the most that the open grants may yet bring to a place: each the greater of its take and its give
--   marking        m(p): the tokens free at a place and those that open grants have taken from it
--   crowded        whether a place has no room for the move: what it may come to hold, were the move and all open grants
--                  settled either way, is more than its limit
--   crowded_place  the lowest such place; room_answer: refused there
--   grant_checks   the checks of a grant before any place is looked at; is_open: refused if no grant of the move is open
--   grant_answer, commit_answer, cancel_answer, report_answer   what the call answers, over net, tokens and open grants
--   plus_one, minus_one   a count raised or lowered at one move
--   Ledger, Call   a ledger; a call of one
--   new_ledger     a ledger on a pile, with no open grants
--   net_under, free_under   the net under a ledger, and its tokens
--   set_by         the pile after a setting, by what working answered
--   done           what an accepted call does
--   answer, next   what a call answers, and the ledger after it
--   run, answers   the same over a list, each call meeting what those before it left
use Rattle.std.specs.Prelude.{ℕ, ◌+◌, ◌-◌, ◌*◌, max, Bool, cond, not, List, [], ◌∷◌, Ok, Err, Option, Result, ◌==◌, nat_lt}
use Rattle.model.specs.declared.refusal.Refusal.TheVariants.{Uncontrollable, Controllable, TooManyOpen, NoRoom, NotOpen, GrantsOpen}
use Rattle.model.specs.declared.fault.Fault.{Fault}
use Rattle.model.specs.Sizes.{most_open}
use Rattle.model.specs.Net.{Net, sum}
use Rattle.model.specs.Plant.{Answer, accepted, lowest, fault_of, fault_at, setting_fault, refuse_at, refuse_unless, ◌else_by◌, known, begin_answer, finish_answer, back_answer}
use Rattle.model.specs.Rule.{Rule, Worked}
use Rattle.model.specs.Working.{work}
use Rattle.model.specs.Layer.{Pile, pile_net, pile_free, pile_begun, pile_finished, pile_gone_back, with_rule, board_answer}

abbrev pub open_count : Net → (ℕ → ℕ) → ℕ
open_count n opened = sum n.moves opened

abbrev pub taken : Net → (ℕ → ℕ) → ℕ → ℕ
taken n opened p = sum n.moves (λ u. opened u * n.take p u)

abbrev pub reserved : Net → (ℕ → ℕ) → ℕ → ℕ
reserved n opened p = sum n.moves (λ u. opened u * max (n.take p u) (n.give p u))

abbrev pub marking : Net → (ℕ → ℕ) → (ℕ → ℕ) → ℕ → ℕ
marking n free opened p = free p + taken n opened p

-- free − take + max(take, give) + reserved is over the limit, without a subtraction that could be cut off
abbrev pub crowded : Net → (ℕ → ℕ) → (ℕ → ℕ) → ℕ → ℕ → Bool
crowded n free opened t p = nat_lt (n.limit p + n.take p t) (free p + max (n.take p t) (n.give p t) + reserved n opened p)

abbrev pub crowded_place : Net → (ℕ → ℕ) → (ℕ → ℕ) → ℕ → Option ℕ
crowded_place n free opened t = lowest (crowded n free opened t) 0 n.places

abbrev pub room_answer : Net → (ℕ → ℕ) → (ℕ → ℕ) → ℕ → Answer
room_answer n free opened t = refuse_at (fault_at n NoRoom t) (crowded_place n free opened t)

abbrev pub grant_checks : Net → (ℕ → ℕ) → ℕ → Answer
grant_checks n opened t =
    known n t
    else_by refuse_unless (n.controllable t) (fault_of Uncontrollable t)
    else_by refuse_unless (nat_lt (open_count n opened) most_open) (fault_of TooManyOpen t)

abbrev pub grant_answer : Net → (ℕ → ℕ) → (ℕ → ℕ) → ℕ → Answer
grant_answer n free opened t = grant_checks n opened t else_by begin_answer n free t else_by room_answer n free opened t

abbrev pub is_open : (ℕ → ℕ) → ℕ → Answer
is_open opened t = refuse_unless (nat_lt 0 (opened t)) (fault_of NotOpen t)

abbrev pub commit_answer : Net → (ℕ → ℕ) → (ℕ → ℕ) → ℕ → Answer
commit_answer n free opened t = known n t else_by is_open opened t else_by finish_answer n free t

abbrev pub cancel_answer : Net → (ℕ → ℕ) → (ℕ → ℕ) → ℕ → Answer
cancel_answer n free opened t = known n t else_by is_open opened t else_by back_answer n free t

abbrev pub report_answer : Net → (ℕ → ℕ) → (ℕ → ℕ) → ℕ → Answer
report_answer n free opened t =
    known n t
    else_by refuse_unless (not (n.controllable t)) (fault_of Controllable t)
    else_by begin_answer n free t
    else_by room_answer n free opened t

abbrev pub plus_one : (ℕ → ℕ) → ℕ → ℕ → ℕ
plus_one f t u = cond (u == t) (f u + 1) (f u)

abbrev pub minus_one : (ℕ → ℕ) → ℕ → ℕ → ℕ
minus_one f t u = cond (u == t) (f u - 1) (f u)

pub record Ledger : Type 0 where
  pub pile : Pile
  -- open(t), the open grants of each move
  pub opened : ℕ → ℕ

abbrev pub new_ledger : Pile → Ledger
new_ledger p = record { pile = p; opened = λ t. 0 }

abbrev pub net_under : Ledger → Net
net_under l = pile_net l.pile

abbrev pub free_under : Ledger → ℕ → ℕ
free_under l = pile_free l.pile

pub data Call : Type 0 where
  grant : ℕ → Call
  commit : ℕ → Call
  cancel : ℕ → Call
  report : ℕ → Call
  -- the typed rule is to be set at this row of the board on top
  admit : ℕ → Rule → Call

abbrev pub answer : Ledger → Call → Answer
answer l (grant t) = grant_answer (net_under l) (free_under l) l.opened t
answer l (commit t) = commit_answer (net_under l) (free_under l) l.opened t
answer l (cancel t) = cancel_answer (net_under l) (free_under l) l.opened t
answer l (report t) = report_answer (net_under l) (free_under l) l.opened t
answer l (admit r typed) =
    refuse_unless (open_count (net_under l) l.opened == 0) (setting_fault GrantsOpen) else_by board_answer l.pile r typed

abbrev pub set_by : Pile → ℕ → Result Worked Fault → Pile
set_by p r (Ok w) = with_rule p r w
set_by p r (Err f) = p

abbrev pub done : Ledger → Call → Ledger
done l (grant t) = record { pile = pile_begun l.pile t; opened = plus_one l.opened t }
done l (commit t) = record { pile = pile_finished l.pile t; opened = minus_one l.opened t }
done l (cancel t) = record { pile = pile_gone_back l.pile t; opened = minus_one l.opened t }
done l (report t) = record { pile = pile_finished (pile_begun l.pile t) t; opened = l.opened }
done l (admit r typed) = record { pile = set_by l.pile r (work l.pile.below typed); opened = l.opened }

abbrev pub next : Ledger → Call → Ledger
next l c = cond (accepted (answer l c)) (done l c) l

abbrev pub run : Ledger → List Call → Ledger
run l [] = l
run l (c ∷ cs) = run (next l c) cs

abbrev pub answers : Ledger → List Call → List Answer
answers l [] = []
answers l (c ∷ cs) = answer l c ∷ answers (next l c) cs
