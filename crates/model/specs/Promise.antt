-- What is promised of every list of calls on a new ledger over a built pile.
--   weight_of       (by the book) a rule's weighted marking, L'·q
--   held            (by the book) what the open grants hold of a rule: each max(0, raise)
--   weight_with     (by the book) the weighted marking, were a choice of open grants committed, and the move with them
--   Lets            (by the book) the ground places let the move begin
--   Breaks          (by the book) some choice of open grants, committed with the move, breaks a rule in force
--   LowestBroken    (by the book) the place of the lowest rule that the move would so break
--   MayAsk          (by the book) a grant of the move passes the checks 30, 31 and 33
--   RefusedAt       an answer that names this place
--   RefusedShort    a grant of the move is refused for want of tokens at this place: the whole fault
--   Agrees          the book's q and v are the ledger's marking of the ground places and its open counts
--   Sums, Grants, Passes   the three parts of the promise
--   Upheld          all that is promised of a ledger and its book
--   Promise         that it holds after every list of calls
use Rattle.std.specs.Prelude.{◌≡◌, ℕ, ◌*◌, ◌<◌, ◌≤◌, true, List, ℤ, pos, ◌+ℤ◌, ◌*ℤ◌, ◌≤ℤ◌, ◌<ℤ◌, Some, Ok, Err}
use mathlib.Core.List.{Memᴰ}
use Rattle.model.specs.declared.refusal.Refusal.TheVariants.{Short}
use Rattle.model.specs.Sizes.{most_open}
use Rattle.model.specs.Net.{Net, sum, signed_sum}
use Rattle.model.specs.Plant.{Answer, fault_at, named_place}
use Rattle.model.specs.Rule.{weighted, raise, positive}
use Rattle.model.specs.Layer.{Pile, InForce, Built}
use Rattle.model.specs.Ledger.{Ledger, Call, grant, commit, cancel, report, new_ledger, net_under, free_under, open_count, taken, marking, answer, run, answers}
use Rattle.model.specs.Book.{Book, book_of, acceptances}

abbrev pub RefusedAt : Answer → ℕ → Type 0
RefusedAt a c = named_place a ≡ Some c

-- the number, the move, the place, its layer and its row; so the answer names the place
abbrev pub RefusedShort : Ledger → ℕ → ℕ → Type 0
RefusedShort l t c = answer l (grant t) ≡ Err (fault_at (net_under l) Short t c)

abbrev pub Lets : Net → Book → ℕ → Type 0
Lets n b t = (p : ℕ) → p < n.ground_places → (pos (n.take p t) +ℤ pos (taken n b.v p)) ≤ℤ b.q p

abbrev pub weight_of : Net → Book → InForce → ℤ
weight_of n b r = weighted n r.worked.weight b.q

abbrev pub held : Net → Book → InForce → ℕ
held n b r = sum n.moves (λ t. b.v t * positive (raise n r.worked.weight t))

abbrev pub weight_with : Net → Book → InForce → (ℕ → ℕ) → ℕ → ℤ
weight_with n b r choice t =
    (weight_of n b r +ℤ signed_sum n.moves (λ u. pos (choice u) *ℤ raise n r.worked.weight u)) +ℤ raise n r.worked.weight t

pub record Breaks (n : Net) (b : Book) (t : ℕ) (r : InForce) : Type 0 where
  pub choice : ℕ → ℕ
  pub within : (u : ℕ) → choice u ≤ b.v u
  pub over_bound : r.worked.bound <ℤ weight_with n b r choice t

pub record LowestBroken (n : Net) (b : Book) (t c : ℕ) : Type 0 where
  pub rule : InForce
  pub stands : Memᴰ rule b.rules
  pub there : rule.place ≡ c
  pub breaks : Breaks n b t rule
  pub none_lower : (r : InForce) → Memᴰ r b.rules → Breaks n b t r → c ≤ r.place

abbrev pub MayAsk : Net → Book → ℕ → Type 0
MayAsk n b t = (t < n.moves) × (n.controllable t ≡ true) × (open_count n b.v < most_open)

pub record Agrees (l : Ledger) (b : Book) : Type 0 where
  pub marked : (p : ℕ) → p < (net_under l).ground_places → b.q p ≡ pos (marking (net_under l) (free_under l) l.opened p)
  pub counted : (t : ℕ) → b.v t ≡ l.opened t

-- for every rule in force: its weighted marking, the tokens of its row and what open grants hold add up to its worked bound,
-- and the rule as typed holds of the marking
pub record Sums (l : Ledger) (b : Book) : Type 0 where
  pub adds_up : (r : InForce) → Memᴰ r b.rules →
      (weight_of (net_under l) b r +ℤ pos (free_under l r.place)) +ℤ pos (held (net_under l) b r) ≡ r.worked.bound
  pub as_typed : (r : InForce) → Memᴰ r b.rules → weighted (net_under l) r.typed.weight b.q ≤ℤ r.typed.bound

-- a grant that may be asked is refused at a control place exactly when the ground places let it begin and it would break a
-- rule in force; and then the place is that of the lowest such rule, and the fault is want of tokens there
pub record Grants (l : Ledger) (b : Book) : Type 0 where
  pub only : (t c : ℕ) → MayAsk (net_under l) b t → (net_under l).ground_places ≤ c → RefusedAt (answer l (grant t)) c →
      Lets (net_under l) b t × LowestBroken (net_under l) b t c × RefusedShort l t c
  pub always : (t : ℕ) (r : InForce) → MayAsk (net_under l) b t → Lets (net_under l) b t → Memᴰ r b.rules →
      Breaks (net_under l) b t r → (c : ℕ) × (((net_under l).ground_places ≤ c) × RefusedShort l t c)

-- a report is not refused at a control place; a commit or cancel of an open grant is not refused
pub record Passes (l : Ledger) : Type 0 where
  pub reported : (t c : ℕ) → (net_under l).ground_places ≤ c → RefusedAt (answer l (report t)) c → ⊥
  pub committed : (t : ℕ) → 0 < l.opened t → answer l (commit t) ≡ Ok tt
  pub cancelled : (t : ℕ) → 0 < l.opened t → answer l (cancel t) ≡ Ok tt

pub record Upheld (l : Ledger) (b : Book) : Type 0 where
  pub agrees : Agrees l b
  pub sums : Sums l b
  pub grants : Grants l b
  pub passes : Passes l

-- for every pile that can be built, with the rules in force on it, and for every list of calls on the new ledger
abbrev pub Promise : Type 0
Promise = (p : Pile) (rs : List InForce) → Built p rs → (cs : List Call) →
    Upheld (run (new_ledger p) cs) (book_of p rs cs (acceptances (answers (new_ledger p) cs)))
