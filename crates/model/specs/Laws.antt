-- The laws of the model: what a reader would ask of the definitions, in the subject's own terms.
-- The statements that contracts name stand here and in `Order.antt`; the words they are said in come first.
--   SameGround     two nets with the same ground part: places, moves and arcs
--   Derived        how a worked rule comes from the typed one: L' = R1 + r·L and b' = r·(b + 1) − 1, r ≥ 1, R1 nowhere negative
--   FiringRule     a call of a plant: refused for a missing move, else at the lowest place in the way, else accepted
--   LayerCall      a layer's call: as below if refused below, else by its own rows
--   JustSet        what a row is that has just been set
--   FreshRow       what a new row is
--   Ruled          a rule of the list stands at the place; BlankPlace: the place has neither arcs nor tokens
--   Moved          a ledger after a call that moved tokens
--   Overfills      (by the book) some choice of open grants, committed with the move, takes a ground place over its limit
--   KeepsRules, HasRoom   (by the book) the move would break no rule in force, and overfill no ground place
--   Admission      (by the book) what an admission asks for
--   GrantAccepted, ReportAccepted, AdmitAccepted   when a call is accepted, exactly, by the book
--   Apart          no two rules of the list are at one place
--   RowsStand      a row is in use exactly while its rule is in the book, and no two rules are at one place
--   Standing       what stays true of the net, the tokens and the arcs
--   fires_once     how often an accepted call fires a move; fired: how often a list of calls has
--   AfterEvery     a fact of the ledger and the book after every list of calls on a new ledger over every built pile
use Rattle.std.specs.Prelude.{◌≡◌, ℕ, ◌+◌, ◌<◌, ◌≤◌, Bool, true, false, cond, not, ◌⊎◌, List, [], ◌∷◌, length, ℤ, pos, ◌+ℤ◌, ◌-ℤ◌, ◌*ℤ◌, neg_ℤ, ◌≤ℤ◌, ◌<ℤ◌, Some, Ok, Err, ◌==◌, ◌≢◌, unsigned_abs}
use mathlib.Core.List.{Memᴰ}
use Rattle.model.specs.declared.refusal.Refusal.{Refusal}
use Rattle.model.specs.declared.refusal.Refusal.TheVariants.{NoMove, Controllable, Short, OverLimit}
use Rattle.model.specs.declared.fault.Fault.{Fault}
use Rattle.model.specs.Sizes.{most_weight, most_bound, most_worked_weight, most_worked_bound, control_limit, most_control_arc, most_open}
use Rattle.model.specs.Net.{Net, Ranges, signed_sum, incidence}
use Rattle.model.specs.Plant.{Answer, lowest, fault_of, fault_at, refuse_unless, ◌else_by◌, known, begin_answer, begun, finish_answer, finished, back_answer, gone_back}
use Rattle.model.specs.Rule.{Rule, Worked, weighted, weighted_free, raise}
use Rattle.model.specs.Working.{divisor, rising, falls, changed, work}
use Rattle.model.specs.Rounds.{Gcd, Round, WorkSays}
use Rattle.model.specs.Layer.{Row, blank, is_shut, next_layer, layer_net, layer_free, rows_begin, rows_finish, rows_back, rows_begun, rows_finished, rows_gone_back, Pile, pile_net, pile_free, row_count, open_rows, row_place, with_rule, top_answer, InForce, Built}
use Rattle.model.specs.Ledger.{Ledger, Call, grant, commit, cancel, report, admit, new_ledger, net_under, free_under, open_count, reserved, marking, room_answer, plus_one, minus_one, answer, next, run, answers}
use Rattle.model.specs.Book.{Book, book_of, acceptances}
use Rattle.model.specs.Promise.{Lets, Breaks, MayAsk}

-- ==== plants

pub record FiringRule (n : Net) (t : ℕ) (InTheWay : ℕ → Type 0) (why : Refusal) (a : Answer) : Type 0 where
  pub no_move : n.moves ≤ t → a ≡ Err (fault_of NoMove t)
  pub passes : t < n.moves → ((p : ℕ) → p < n.places → InTheWay p → ⊥) → a ≡ Ok tt
  pub refused : t < n.moves → (p : ℕ) → p < n.places → InTheWay p → ((j : ℕ) → j < p → InTheWay j → ⊥) →
      a ≡ Err (fault_at n why t p)

-- begin: accepted exactly when no place is short of what the move takes; else the lowest short place is named
abbrev pub BeginFires : Type 0
BeginFires = (n : Net) (free : ℕ → ℕ) (t : ℕ) → FiringRule n t (λ p. free p < n.take p t) Short (begin_answer n free t)

-- finish: accepted exactly when no place goes over its limit by what the move gives; else the lowest such place is named
abbrev pub FinishFires : Type 0
FinishFires = (n : Net) (free : ℕ → ℕ) (t : ℕ) →
    FiringRule n t (λ p. n.limit p < free p + n.give p t) OverLimit (finish_answer n free t)

-- back: as finish, with what the move takes
abbrev pub BackFires : Type 0
BackFires = (n : Net) (free : ℕ → ℕ) (t : ℕ) →
    FiringRule n t (λ p. n.limit p < free p + n.take p t) OverLimit (back_answer n free t)

-- begin and then back: accepted where no place was over its limit, and every place is as it was
abbrev pub BeginBack : Type 0
BeginBack = (n : Net) (free : ℕ → ℕ) (t : ℕ) → ((p : ℕ) → p < n.places → free p ≤ n.limit p) → begin_answer n free t ≡ Ok tt →
    (back_answer n (begun n free t) t ≡ Ok tt) × ((p : ℕ) → p < n.places → gone_back n (begun n free t) t p ≡ free p)

-- begin and then finish: every place has moved by D
abbrev pub BeginFinish : Type 0
BeginFinish = (n : Net) (free : ℕ → ℕ) (t : ℕ) → begin_answer n free t ≡ Ok tt → finish_answer n (begun n free t) t ≡ Ok tt →
    (p : ℕ) → p < n.places → pos (finished n (begun n free t) t p) ≡ pos (free p) +ℤ incidence n p t

-- ==== rules

pub record SameGround (n m : Net) : Type 0 where
  pub same_ground : m.ground_places ≡ n.ground_places
  pub same_moves : m.moves ≡ n.moves
  pub same_controllable : (t : ℕ) → m.controllable t ≡ n.controllable t
  pub same_take : (p t : ℕ) → p < n.ground_places → m.take p t ≡ n.take p t
  pub same_give : (p t : ℕ) → p < n.ground_places → m.give p t ≡ n.give p t

pub record Derived (ground_places : ℕ) (typed : Rule) (w : Worked) : Type 0 where
  pub factor : ℕ
  pub factor_some : 1 ≤ factor
  pub rest : ℕ → ℤ
  pub rest_low : (p : ℕ) → p < ground_places → pos 0 ≤ℤ rest p
  pub blend : (p : ℕ) → p < ground_places → w.weight p ≡ rest p +ℤ pos factor *ℤ typed.weight p
  pub blend_bound : w.bound ≡ pos factor *ℤ (typed.bound +ℤ pos 1) -ℤ pos 1
  -- the ranges of both
  pub weights_in : (p : ℕ) → p < ground_places → unsigned_abs (w.weight p) ≤ most_worked_weight
  pub bound_in : unsigned_abs w.bound ≤ most_worked_bound
  pub typed_weights_in : (p : ℕ) → p < ground_places → unsigned_abs (typed.weight p) ≤ most_weight
  pub typed_bound_in : unsigned_abs typed.bound ≤ most_bound
  -- no place off the ground weighs
  pub weights_out : ((p : ℕ) → ground_places ≤ p → typed.weight p ≡ pos 0) → (p : ℕ) → ground_places ≤ p → w.weight p ≡ pos 0

-- every answer of working is a chain of rounds: worked after at most 64 and no move rises; 22 after exactly 64, and one still
-- rises; 20 and 21 after fewer; 25 exactly where the rule is none that can be typed; and no other answer
abbrev pub WorkingSays : Type 0
WorkingSays = (n : Net) (typed : Rule) → WorkSays n typed (work n typed)

-- what a round makes of a rule, for its move and place, is a round: lowest move, lowest place, greatest common divisor
abbrev pub IsRound : Type 0
IsRound = (n : Net) (w : Worked) (t p : ℕ) → lowest (rising n w) 0 n.moves ≡ Some t →
    lowest (falls n t) 0 n.ground_places ≡ Some p → Round n w (changed n w t p)

-- the divisor that a round uses is the greatest common divisor
abbrev pub DivisorGcd : Type 0
DivisorGcd = (a e : ℕ) → 1 ≤ e → Gcd a e (divisor e a e)

-- L' = R1 + r·L and b' = r·(b + 1) − 1, with r ≥ 1 and no entry of R1 negative
abbrev pub WorkDerives : Type 0
WorkDerives = (n : Net) (typed : Rule) (w : Worked) → work n typed ≡ Ok w → Derived n.ground_places typed w

-- no uncontrollable move raises a worked rule
abbrev pub WorkQuiets : Type 0
WorkQuiets = (n : Net) (typed : Rule) (w : Worked) → work n typed ≡ Ok w → (t : ℕ) → t < n.moves → n.controllable t ≡ false →
    raise n w.weight t ≤ℤ pos 0

-- tokens that keep the worked rule keep the typed one
abbrev pub WorkedImplies : Type 0
WorkedImplies = (n : Net) (typed : Rule) (w : Worked) → work n typed ≡ Ok w → (m : ℕ → ℕ) →
    weighted_free n w.weight m ≤ℤ w.bound → weighted_free n typed.weight m ≤ℤ typed.bound

-- working looks at the ground part of the net alone
abbrev pub WorkOnGround : Type 0
WorkOnGround = (n m : Net) → SameGround n m → (typed : Rule) → work m typed ≡ work n typed

-- ==== layers

pub record LayerCall (size : ℕ) (n : Net) (whole below own : Answer) : Type 0 where
  pub if_open : is_shut size n ≡ false → whole ≡ (below else_by own)
  pub if_shut : is_shut size n ≡ true → whole ≡ below

-- begin, finish and back of a layer are refused as below if refused below, else by its own rows, at the lowest
abbrev pub LayerBegins : Type 0
LayerBegins = (size : ℕ) (n : Net) (free : ℕ → ℕ) (rows : ℕ → Row) (t : ℕ) →
    LayerCall size n (begin_answer (layer_net size n rows) (layer_free size n free rows) t) (begin_answer n free t) (rows_begin size n rows t)
    × LayerCall size n (finish_answer (layer_net size n rows) (layer_free size n free rows) t) (finish_answer n free t) (rows_finish size n rows t)
    × LayerCall size n (back_answer (layer_net size n rows) (layer_free size n free rows) t) (back_answer n free t) (rows_back size n rows t)

-- and the tokens after an accepted call are those below after it, and those of its rows after it
abbrev pub LayerMoves : Type 0
LayerMoves = (size : ℕ) (n : Net) (free : ℕ → ℕ) (rows : ℕ → Row) (t : ℕ) →
    let m : Net = layer_net size n rows in
    let f : ℕ → ℕ = layer_free size n free rows in
    (begin_answer m f t ≡ Ok tt → begun m f t ≡ layer_free size n (begun n free t) (rows_begun n rows t))
    × (finish_answer m f t ≡ Ok tt → finished m f t ≡ layer_free size n (finished n free t) (rows_finished n rows t))
    × (back_answer m f t ≡ Ok tt → gone_back m f t ≡ layer_free size n (gone_back n free t) (rows_gone_back n rows t))

-- whatever the rows hold, with arcs that are small: the layer keeps the ranges, and so an uncontrollable move takes nothing there
abbrev pub LayerRanges : Type 0
LayerRanges = (size : ℕ) (n : Net) (rows : ℕ → Row) → Ranges n →
    ((r t : ℕ) → r < size → ((rows r).take t ≤ most_control_arc) × ((rows r).give t ≤ most_control_arc)) →
    Ranges (layer_net size n rows)

pub record FreshRow (n m : Net) (free : ℕ → ℕ) (k : ℕ) : Type 0 where
  pub row_is : m.row (n.places + k) ≡ k
  pub layer_is : m.layer (n.places + k) ≡ next_layer n.places n.layer
  pub limit_is : m.limit (n.places + k) ≡ control_limit
  pub no_arcs : (t : ℕ) → (m.take (n.places + k) t ≡ 0) × (m.give (n.places + k) t ≡ 0)
  pub no_free : free (n.places + k) ≡ 0

-- a new layer's rows: their numbers, their layer, no arcs and no tokens
abbrev pub NewRows : Type 0
NewRows = (size : ℕ) (n : Net) (free : ℕ → ℕ) (k : ℕ) → is_shut size n ≡ false → k < size →
    FreshRow n (layer_net size n (λ r. blank)) (layer_free size n free (λ r. blank)) k

-- a new layer is above every layer below, by one above the highest, or 1
abbrev pub AboveAll : Type 0
AboveAll = (k : ℕ) (layer : ℕ → ℕ) →
    ((i : ℕ) → i < k → layer i < next_layer k layer)
    × ((m : ℕ) → 1 ≤ m → ((i : ℕ) → i < k → layer i < m) → next_layer k layer ≤ m)

pub record JustSet (p q : Pile) (c : ℕ) (w : Worked) : Type 0 where
  pub arcs : (t : ℕ) → incidence (pile_net q) c t ≡ neg_ℤ (raise (pile_net p) w.weight t)
  pub one_way : (t : ℕ) → ((pile_net q).take c t ≡ 0) ⊎ ((pile_net q).give c t ≡ 0)
  pub tokens : weighted_free (pile_net p) w.weight (pile_free p) +ℤ pos (pile_free q c) ≡ w.bound
  pub others : (i t : ℕ) → (i ≢ c) →
      ((pile_net q).take i t ≡ (pile_net p).take i t) × ((pile_net q).give i t ≡ (pile_net p).give i t) × (pile_free q i ≡ pile_free p i)

-- a row just set has the arcs −L'·D, takes or gives but not both, the weighted tokens and its own add up to the bound, and
-- every other place is as it was
abbrev pub SetRow : Type 0
SetRow = (p : Pile) → Ranges p.below → (r : ℕ) → r < row_count p.top → (typed : Rule) (w : Worked) →
    top_answer p r typed ≡ Ok tt → work p.below typed ≡ Ok w → JustSet p (with_rule p r w) (row_place p r) w

-- ==== ledgers and books

abbrev pub AfterEvery : (Ledger → Book → Type 0) → Type 0
AfterEvery P = (p : Pile) (rs : List InForce) → Built p rs → (cs : List Call) →
    P (run (new_ledger p) cs) (book_of p rs cs (acceptances (answers (new_ledger p) cs)))

pub record Ruled (rs : List InForce) (c : ℕ) : Type 0 where
  pub rule : InForce
  pub stands : Memᴰ rule rs
  pub there : rule.place ≡ c

pub record BlankPlace (n : Net) (free : ℕ → ℕ) (c : ℕ) : Type 0 where
  pub no_free : free c ≡ 0
  pub no_take : (t : ℕ) → n.take c t ≡ 0
  pub no_give : (t : ℕ) → n.give c t ≡ 0

-- a refused call leaves the ledger as it was
abbrev pub RefusedStill : Type 0
RefusedStill = (l : Ledger) (c : Call) (f : Fault) → answer l c ≡ Err f → next l c ≡ l

pub record Moved (l m : Ledger) (free opened : ℕ → ℕ) : Type 0 where
  pub same_net : net_under m ≡ net_under l
  pub tokens : free_under m ≡ free
  pub counts : m.opened ≡ opened

-- what stands after an accepted call that moves tokens, at every place: grant is begin, commit is finish, cancel is back, and
-- report is begin and then finish; the net stays as it is
abbrev pub CallsFire : Type 0
CallsFire = (l : Ledger) (t : ℕ) →
    let n : Net = net_under l in
    let free : ℕ → ℕ = free_under l in
    (answer l (grant t) ≡ Ok tt → Moved l (next l (grant t)) (begun n free t) (plus_one l.opened t))
    × (answer l (commit t) ≡ Ok tt → Moved l (next l (commit t)) (finished n free t) (minus_one l.opened t))
    × (answer l (cancel t) ≡ Ok tt → Moved l (next l (cancel t)) (gone_back n free t) (minus_one l.opened t))
    × (answer l (report t) ≡ Ok tt → Moved l (next l (report t)) (finished n (begun n free t) t) l.opened)

-- every call of a list is answered
abbrev pub AnswersAll : Type 0
AnswersAll = (l : Ledger) (cs : List Call) → length (answers l cs) ≡ length cs

-- a report is begin and finish in one call: where begin and room accept it, finish never refuses it
abbrev pub ReportIs : Type 0
ReportIs = (l : Ledger) (t : ℕ) → answer l (report t) ≡
    (known (net_under l) t
    else_by refuse_unless (not ((net_under l).controllable t)) (fault_of Controllable t)
    else_by begin_answer (net_under l) (free_under l) t
    else_by room_answer (net_under l) (free_under l) l.opened t
    else_by finish_answer (net_under l) (begun (net_under l) (free_under l) t) t)

pub record Overfills (n : Net) (b : Book) (t p : ℕ) : Type 0 where
  pub choice : ℕ → ℕ
  pub within : (u : ℕ) → choice u ≤ b.v u
  pub over : pos (n.limit p) <ℤ ((b.q p +ℤ signed_sum n.moves (λ u. pos (choice u) *ℤ incidence n p u)) +ℤ incidence n p t)

abbrev pub KeepsRules : Net → Book → ℕ → Type 0
KeepsRules n b t = (r : InForce) → Memᴰ r b.rules → Breaks n b t r → ⊥

abbrev pub HasRoom : Net → Book → ℕ → Type 0
HasRoom n b t = (p : ℕ) → p < n.ground_places → Overfills n b t p → ⊥

pub record GrantAccepted (l : Ledger) (b : Book) : Type 0 where
  pub when : (t : ℕ) → MayAsk (net_under l) b t → Lets (net_under l) b t → KeepsRules (net_under l) b t →
      HasRoom (net_under l) b t → answer l (grant t) ≡ Ok tt
  pub only : (t : ℕ) → answer l (grant t) ≡ Ok tt →
      MayAsk (net_under l) b t × Lets (net_under l) b t × KeepsRules (net_under l) b t × HasRoom (net_under l) b t

-- after every list: a grant is accepted exactly when its move is there and controllable, fewer than 200 are open, the ground
-- places let it begin, no choice of open grants with it breaks a rule in force, and none takes a ground place over its limit
abbrev pub GrantsExact : Type 0
GrantsExact = AfterEvery GrantAccepted

pub record ReportAccepted (l : Ledger) (b : Book) : Type 0 where
  pub when : (t : ℕ) → t < (net_under l).moves → (net_under l).controllable t ≡ false → Lets (net_under l) b t →
      HasRoom (net_under l) b t → answer l (report t) ≡ Ok tt
  pub only : (t : ℕ) → answer l (report t) ≡ Ok tt →
      (t < (net_under l).moves) × ((net_under l).controllable t ≡ false) × Lets (net_under l) b t × HasRoom (net_under l) b t

-- after every list: a report is accepted exactly when its move is there and uncontrollable, the ground places let it begin,
-- and no choice of open grants with it takes a ground place over its limit; rules have no say in it
abbrev pub ReportsExact : Type 0
ReportsExact = AfterEvery ReportAccepted

pub record Admission (l : Ledger) (b : Book) (r : ℕ) (typed : Rule) (w : Worked) : Type 0 where
  pub none_open : open_count (net_under l) b.v ≡ 0
  pub row_there : r < open_rows l.pile.top
  pub not_shut : is_shut (row_count l.pile.top) l.pile.below ≡ false
  pub no_rule : Ruled b.rules (row_place l.pile r) → ⊥
  pub worked : work (net_under l) typed ≡ Ok w
  pub keeps : weighted (net_under l) w.weight b.q ≤ℤ w.bound

pub record AdmitAccepted (l : Ledger) (b : Book) : Type 0 where
  pub when : (r : ℕ) (typed : Rule) (w : Worked) → Admission l b r typed w → answer l (admit r typed) ≡ Ok tt
  pub only : (r : ℕ) (typed : Rule) → answer l (admit r typed) ≡ Ok tt → (w : Worked) × Admission l b r typed w

-- after every list: an admission is accepted exactly when no grant is open, a board on top has the row and is not shut, no
-- rule in force is at it, and the rule can be worked and holds of the book's marking
abbrev pub AdmitsExact : Type 0
AdmitsExact = AfterEvery AdmitAccepted

abbrev pub Apart : List InForce → Type 0
Apart [] = Unit {0}
Apart (r ∷ rs) = ((s : InForce) → Memᴰ s rs → s.place ≢ r.place) × Apart rs

pub record RowsStand (l : Ledger) (b : Book) : Type 0 where
  pub apart : Apart b.rules
  pub used_ruled : (k : ℕ) → k < row_count l.pile.top → (l.pile.rows k).in_use ≡ true →
      Ruled b.rules (row_place l.pile k)
  pub ruled_used : (k : ℕ) → Ruled b.rules (row_place l.pile k) → (l.pile.rows k).in_use ≡ true

-- after every list: no two rules are at one place, and a row of the top layer is in use exactly while its rule is in the book
abbrev pub RowsAreRules : Type 0
RowsAreRules = AfterEvery RowsStand

pub record Standing (l : Ledger) (b : Book) : Type 0 where
  -- the pile is a plant still; no place is above its limit, nor would be when every open grant is settled, either way
  pub ranges : Ranges (net_under l)
  pub within : (p : ℕ) → p < (net_under l).places → free_under l p + reserved (net_under l) l.opened p ≤ (net_under l).limit p
  pub few : open_count (net_under l) l.opened ≤ most_open
  -- each rule of the book has a control place, with the arcs −L'·D
  pub is_control : (r : InForce) → Memᴰ r b.rules → ((net_under l).ground_places ≤ r.place) × (r.place < (net_under l).places)
  pub arcs : (r : InForce) → Memᴰ r b.rules → (t : ℕ) →
      incidence (net_under l) r.place t ≡ neg_ℤ (raise (net_under l) r.worked.weight t)
  pub derived : (r : InForce) → Memᴰ r b.rules → Derived (net_under l).ground_places r.typed r.worked
  pub worked : (r : InForce) → Memᴰ r b.rules → work (net_under l) r.typed ≡ Ok r.worked
  -- a control place without a rule in the book is blank
  pub blank_or_ruled : (c : ℕ) → (net_under l).ground_places ≤ c → BlankPlace (net_under l) (free_under l) c ⊎ Ruled b.rules c

-- after every list the pile keeps the ranges, its limits and the arcs of its rules
abbrev pub AllStanding : Type 0
AllStanding = AfterEvery Standing

abbrev pub fires_once : Call → ℕ → ℕ
fires_once (grant t) u = 0
fires_once (commit t) u = cond (u == t) 1 0
fires_once (cancel t) u = 0
fires_once (report t) u = cond (u == t) 1 0
fires_once (admit r typed) u = 0

abbrev pub fired : List Call → List Bool → ℕ → ℕ
fired [] xs u = 0
fired (c ∷ cs) [] u = 0
fired (c ∷ cs) (x ∷ xs) u = cond x (fires_once c u) 0 + fired cs xs u

-- the state equation: after every list the marking of a ground place is the first marking and D times the moves fired
abbrev pub StateEquation : Type 0
StateEquation = (p : Pile) (rs : List InForce) → Built p rs → (cs : List Call) (i : ℕ) → i < (pile_net p).ground_places →
    let l : Ledger = run (new_ledger p) cs in
    let times : ℕ → ℕ = fired cs (acceptances (answers (new_ledger p) cs)) in
    pos (marking (net_under l) (free_under l) l.opened i) ≡ pos (pile_free p i) +ℤ signed_sum (pile_net p).moves (λ u. pos (times u) *ℤ incidence (pile_net p) i u)
