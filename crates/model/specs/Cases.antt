-- The marked cases: small plants, what is asked of each, and what must come of it.
--   Move, small_net   a net by its table: the limits of its places, and each move with what it takes and gives
--   nth, nth_move     the number or the move at an index; beyond the list 0, and a move without arcs
--   controllable_move, uncontrollable_move   a move by what it takes and gives
--   rule_of           a rule by its weights and its bound
--   Outcome           what came of it: a worked rule, a call that passed, a refusal's number and place, or tokens at a place
--   outcome_of        what came of an answer; working_of: of working a rule; outcomes_of: of a list of answers
--   works, sets, sets_and_shows, calls   what comes of working a rule, of setting it on a monitor, of calls on a new ledger
--   Case              what came of a case, and what must
--   marked_cases      the list of cases
--   numbered_cases    a list of more, so that each refusal of a call or a setting is met by its number
--   AsMarked          each case of a list came out as it must
--   ExampleBuilt      the worked example's pile is built as piles are
use Rattle.std.specs.Prelude.{◌≡◌, ℕ, zero, suc, Bool, true, false, List, [], ◌∷◌, ℤ, pos, negsuc, Some, None, Ok, Err, Option, Result}
use Rattle.model.specs.declared.fault.Fault.{Fault}
use Rattle.model.specs.Refusals.{refusal_number}
use Rattle.model.specs.Net.{Net}
use Rattle.model.specs.Plant.{Answer, named_place, finish_answer, back_answer}
use Rattle.model.specs.Rule.{Rule, Worked}
use Rattle.model.specs.Working.{work, unchanged}
use Rattle.model.specs.Layer.{Pile, monitor, board, plant_alone, pile_free, with_layer, monitor_answer, InForce, Built}
use Rattle.model.specs.Ledger.{Call, grant, commit, cancel, report, admit, set_by, new_ledger, answer, run, answers}

-- ---- small plants
abbrev pub nth : List ℕ → ℕ → ℕ
nth [] i = 0
nth (x ∷ xs) zero = x
nth (x ∷ xs) (suc i) = nth xs i

abbrev pub count_places : List ℕ → ℕ
count_places [] = 0
count_places (x ∷ xs) = suc (count_places xs)

pub record Move : Type 0 where
  pub steered : Bool
  pub takes : List ℕ
  pub gives : List ℕ

abbrev pub no_such_move : Move
no_such_move = record { steered = false; takes = []; gives = [] }

abbrev pub nth_move : List Move → ℕ → Move
nth_move [] t = no_such_move
nth_move (m ∷ ms) zero = m
nth_move (m ∷ ms) (suc t) = nth_move ms t

abbrev pub count_moves : List Move → ℕ
count_moves [] = 0
count_moves (m ∷ ms) = suc (count_moves ms)

abbrev pub small_net : List ℕ → List Move → Net
small_net limits moves = record {
  ground_places = count_places limits;
  places = count_places limits;
  moves = count_moves moves;
  controllable = λ t. (nth_move moves t).steered;
  take = λ p t. nth (nth_move moves t).takes p;
  give = λ p t. nth (nth_move moves t).gives p;
  limit = nth limits;
  layer = λ p. 0;
  row = λ p. 0;
}

abbrev pub controllable_move : List ℕ → List ℕ → Move
controllable_move takes gives = record { steered = true; takes = takes; gives = gives }

abbrev pub uncontrollable_move : List ℕ → List ℕ → Move
uncontrollable_move takes gives = record { steered = false; takes = takes; gives = gives }

abbrev pub weight_at : List ℤ → ℕ → ℤ
weight_at [] p = pos 0
weight_at (x ∷ xs) zero = x
weight_at (x ∷ xs) (suc p) = weight_at xs p

abbrev pub rule_of : List ℤ → ℤ → Rule
rule_of weights bound = record { weight = weight_at weights; bound = bound }

-- ---- what comes of them
pub data Outcome : Type 0 where
  worked_to : List ℤ → ℤ → ℕ → Outcome
  passed : Outcome
  refused : ℕ → Option ℕ → Outcome
  tokens : ℕ → Outcome

-- the weights of the places i, i + 1, .. (k of them)
abbrev pub weights_from : (ℕ → ℤ) → ℕ → ℕ → List ℤ
weights_from l i zero = []
weights_from l i (suc k) = l i ∷ weights_from l (suc i) k

abbrev pub outcome_of : Answer → Outcome
outcome_of (Ok u) = passed
outcome_of (Err f) = refused (refusal_number f.refusal) (named_place (Err f))

abbrev pub working_of : ℕ → Result Worked Fault → Outcome
working_of k (Ok w) = worked_to (weights_from w.weight 0 k) w.bound w.rounds
working_of k (Err f) = outcome_of (Err f)

abbrev pub outcomes_of : List Answer → List Outcome
outcomes_of [] = []
outcomes_of (a ∷ xs) = outcome_of a ∷ outcomes_of xs

pub record Case : Type 0 where
  pub came : List Outcome
  pub must : List Outcome

abbrev pub AsMarked : List Case → Type 0
AsMarked [] = Unit {0}
AsMarked (c ∷ cs) = (c.came ≡ c.must) × AsMarked cs

-- a rule worked over a net
abbrev pub works : Net → Rule → List Outcome
works n r = working_of n.ground_places (work n r) ∷ []

-- a rule set on a monitor over the plant, and the tokens of its row after
abbrev pub monitored_by : Net → (ℕ → ℕ) → Rule → Pile
monitored_by n free r = set_by (with_layer monitor (plant_alone n free)) 0 (work n r)

abbrev pub sets : Net → (ℕ → ℕ) → Rule → List Outcome
sets n free r = outcome_of (monitor_answer (with_layer monitor (plant_alone n free)) r) ∷ []

abbrev pub sets_and_shows : Net → (ℕ → ℕ) → Rule → List Outcome
sets_and_shows n free r = outcome_of (monitor_answer (with_layer monitor (plant_alone n free)) r) ∷ tokens (pile_free (monitored_by n free r) n.places) ∷ []

-- calls on a new ledger
abbrev pub calls : Pile → List Call → List Outcome
calls p cs = outcomes_of (answers (new_ledger p) cs)

-- ---- the worked example: places A, Z, B; moves in (A to Z), out (Z to B, uncontrollable) and ret (B to A)
abbrev pub example_net : Net
example_net = small_net (5 ∷ 4 ∷ 9 ∷ []) (
    controllable_move (1 ∷ []) (0 ∷ 1 ∷ [])
    ∷ uncontrollable_move (0 ∷ 1 ∷ []) (0 ∷ 0 ∷ 1 ∷ [])
    ∷ controllable_move (0 ∷ 0 ∷ 1 ∷ []) (1 ∷ [])
    ∷ [])

abbrev pub example_free : ℕ → ℕ
example_free = nth (3 ∷ [])

-- Z ≤ 2 fixed, and B ≤ 1 for row 0 of the board; their control places are 3 and 4
abbrev pub zone : Rule
zone = rule_of (pos 0 ∷ pos 1 ∷ []) (pos 2)

abbrev pub keep : Rule
keep = rule_of (pos 0 ∷ pos 0 ∷ pos 1 ∷ []) (pos 1)

abbrev pub example_cell : Pile
example_cell = with_layer board (monitored_by example_net example_free zone)

abbrev pub orders : List Call
orders = grant 0 ∷ grant 0 ∷ grant 0 ∷ cancel 0 ∷ commit 0 ∷ admit 0 keep ∷ report 1 ∷ grant 2 ∷ grant 0 ∷ commit 2 ∷ grant 1 ∷ []

-- the same net, but that out takes so many of Z
abbrev pub out_takes : ℕ → Net
out_takes k = small_net (5 ∷ 4 ∷ 9 ∷ []) (
    controllable_move (1 ∷ []) (0 ∷ 1 ∷ [])
    ∷ uncontrollable_move (0 ∷ k ∷ []) (0 ∷ 0 ∷ 1 ∷ [])
    ∷ controllable_move (0 ∷ 0 ∷ 1 ∷ []) (1 ∷ [])
    ∷ [])

-- places P, Q, R; uncontrollable moves P to Q and R, and Q to P
abbrev pub round_trip : Net
round_trip = small_net (9 ∷ 9 ∷ 9 ∷ []) (uncontrollable_move (1 ∷ []) (0 ∷ 1 ∷ 1 ∷ []) ∷ uncontrollable_move (0 ∷ 1 ∷ []) (1 ∷ []) ∷ [])

-- seven places, of which each of the first six has a move to all later ones, all uncontrollable: a rule on the seventh is
-- worked in 63 rounds. Each further place with a move to the seventh adds a round
abbrev pub falling_moves : List Move → List Move
falling_moves more =
    uncontrollable_move (1 ∷ []) (0 ∷ 1 ∷ 1 ∷ 1 ∷ 1 ∷ 1 ∷ 1 ∷ [])
    ∷ uncontrollable_move (0 ∷ 1 ∷ []) (0 ∷ 0 ∷ 1 ∷ 1 ∷ 1 ∷ 1 ∷ 1 ∷ [])
    ∷ uncontrollable_move (0 ∷ 0 ∷ 1 ∷ []) (0 ∷ 0 ∷ 0 ∷ 1 ∷ 1 ∷ 1 ∷ 1 ∷ [])
    ∷ uncontrollable_move (0 ∷ 0 ∷ 0 ∷ 1 ∷ []) (0 ∷ 0 ∷ 0 ∷ 0 ∷ 1 ∷ 1 ∷ 1 ∷ [])
    ∷ uncontrollable_move (0 ∷ 0 ∷ 0 ∷ 0 ∷ 1 ∷ []) (0 ∷ 0 ∷ 0 ∷ 0 ∷ 0 ∷ 1 ∷ 1 ∷ [])
    ∷ uncontrollable_move (0 ∷ 0 ∷ 0 ∷ 0 ∷ 0 ∷ 1 ∷ []) (0 ∷ 0 ∷ 0 ∷ 0 ∷ 0 ∷ 0 ∷ 1 ∷ [])
    ∷ more

abbrev pub eighth_move : Move
eighth_move = uncontrollable_move (0 ∷ 0 ∷ 0 ∷ 0 ∷ 0 ∷ 0 ∷ 0 ∷ 1 ∷ []) (0 ∷ 0 ∷ 0 ∷ 0 ∷ 0 ∷ 0 ∷ 1 ∷ [])

abbrev pub ninth_move : Move
ninth_move = uncontrollable_move (0 ∷ 0 ∷ 0 ∷ 0 ∷ 0 ∷ 0 ∷ 0 ∷ 0 ∷ 1 ∷ []) (0 ∷ 0 ∷ 0 ∷ 0 ∷ 0 ∷ 0 ∷ 1 ∷ [])

abbrev pub nine_places : List ℕ
nine_places = 9 ∷ 9 ∷ 9 ∷ 9 ∷ 9 ∷ 9 ∷ 9 ∷ 9 ∷ 9 ∷ []

abbrev pub seventh : Rule
seventh = rule_of (pos 0 ∷ pos 0 ∷ pos 0 ∷ pos 0 ∷ pos 0 ∷ pos 0 ∷ pos 1 ∷ []) (pos 5)

-- a line of two places with limits 1, the first full
abbrev pub line : Net
line = small_net (1 ∷ 1 ∷ []) (controllable_move [] (1 ∷ []) ∷ controllable_move (1 ∷ []) (0 ∷ 1 ∷ []) ∷ controllable_move (0 ∷ 1 ∷ []) [] ∷ [])

abbrev pub line_free : ℕ → ℕ
line_free = nth (1 ∷ [])

-- one place that a move takes from and gives back to, with tokens to spare
abbrev pub turn : Pile
turn = plant_alone (small_net (999 ∷ []) (controllable_move (1 ∷ []) (1 ∷ []) ∷ [])) (nth (500 ∷ []))

abbrev pub so_often : ℕ → Call → List Call
so_often zero c = []
so_often (suc k) c = c ∷ so_often k c

-- what the grant after so many grants answers
abbrev pub after_grants : ℕ → Outcome
after_grants k = outcome_of (answer (run (new_ledger turn) (so_often k (grant 0))) (grant 0))

abbrev pub marked_cases : List Case
marked_cases =
    -- B ≤ 1 is worked in one round to Z + B ≤ 1
    record { came = works example_net keep; must = worked_to (pos 0 ∷ pos 1 ∷ pos 1 ∷ []) (pos 1) 1 ∷ [] }
    -- if out takes 2 of Z, 3·B ≤ 5 is worked to 3·Z + 6·B ≤ 11
    ∷ record { came = works (out_takes 2) (rule_of (pos 0 ∷ pos 0 ∷ pos 3 ∷ []) (pos 5)); must = worked_to (pos 0 ∷ pos 3 ∷ pos 6 ∷ []) (pos 11) 1 ∷ [] }
    -- if out takes nothing, B ≤ 3 is not absorbed
    ∷ record { came = works (out_takes 0) (rule_of (pos 0 ∷ pos 0 ∷ pos 1 ∷ []) (pos 3)); must = refused 20 None ∷ [] }
    -- R ≤ 5 is never worked on the round trip
    ∷ record { came = works round_trip (rule_of (pos 0 ∷ pos 0 ∷ pos 1 ∷ []) (pos 5)); must = refused 22 None ∷ [] }
    -- a rule that is worked after exactly 64 rounds is worked; one that would take 65 is not
    ∷ record {
      came = works (small_net nine_places (falling_moves (eighth_move ∷ []))) seventh;
      must = worked_to (pos 32 ∷ pos 16 ∷ pos 8 ∷ pos 4 ∷ pos 2 ∷ pos 1 ∷ pos 1 ∷ pos 1 ∷ pos 0 ∷ []) (pos 5) 64 ∷ [];
    }
    ∷ record { came = works (small_net nine_places (falling_moves (eighth_move ∷ ninth_move ∷ []))) seventh; must = refused 22 None ∷ [] }
    -- A ≥ 4 does not hold at the start; A ≥ 3 is set, and leaves no tokens
    ∷ record { came = sets example_net example_free (rule_of (negsuc 0 ∷ []) (negsuc 3)); must = refused 23 None ∷ [] }
    ∷ record { came = sets_and_shows example_net example_free (rule_of (negsuc 0 ∷ []) (negsuc 2)); must = passed ∷ tokens 0 ∷ [] }
    -- the first place of the line is full, and stays so while the move out of it is only open
    ∷ record { came = calls (plant_alone line line_free) (grant 0 ∷ []); must = refused 35 (Some 0) ∷ [] }
    ∷ record { came = calls (plant_alone line line_free) (grant 1 ∷ grant 0 ∷ []); must = passed ∷ refused 35 (Some 0) ∷ [] }
    -- the orders of the worked example
    ∷ record { came = calls example_cell orders; must = passed ∷ passed ∷ refused 34 (Some 3) ∷ passed ∷ passed ∷ passed ∷ passed ∷ passed ∷ refused 34 (Some 4) ∷ passed ∷ refused 31 None ∷ [] }
    ∷ record { came = tokens (pile_free (run (new_ledger example_cell) orders).pile 4) ∷ []; must = tokens 1 ∷ [] }
    -- the 200th open grant passes, the 201st does not
    ∷ record { came = after_grants 199 ∷ after_grants 200 ∷ []; must = passed ∷ refused 33 None ∷ [] }
    ∷ []

-- ---- the refusals that those cases have not, each by its number
-- each of three places is filled from the next by a move that nobody holds up, which takes one there and gives nine
abbrev pub steep : Net
steep = small_net (999 ∷ 999 ∷ 999 ∷ 999 ∷ []) (
    uncontrollable_move (0 ∷ 1 ∷ []) (9 ∷ [])
    ∷ uncontrollable_move (0 ∷ 0 ∷ 1 ∷ []) (0 ∷ 9 ∷ [])
    ∷ uncontrollable_move (0 ∷ 0 ∷ 0 ∷ 1 ∷ []) (0 ∷ 0 ∷ 9 ∷ [])
    ∷ [])

-- the worked example's net with so many places, the rest control places
abbrev pub with_places : ℕ → Net
with_places k = record {
  ground_places = 3;
  places = k;
  moves = 3;
  controllable = example_net.controllable;
  take = example_net.take;
  give = example_net.give;
  limit = example_net.limit;
  layer = λ p. 0;
  row = λ p. 0;
}

abbrev pub numbered_cases : List Case
numbered_cases =
    -- the move 3 is not there; the move 1 is a sensor's to report, the move 0 a driver's to be granted
    record { came = calls example_cell (grant 3 ∷ report 3 ∷ commit 3 ∷ cancel 3 ∷ grant 1 ∷ report 0 ∷ []); must = refused 30 None ∷ refused 30 None ∷ refused 30 None ∷ refused 30 None ∷ refused 31 None ∷ refused 32 None ∷ [] }
    -- none of the move is open, though one of another is
    ∷ record { came = calls example_cell (grant 0 ∷ commit 2 ∷ cancel 2 ∷ commit 0 ∷ commit 0 ∷ []); must = passed ∷ refused 36 None ∷ refused 36 None ∷ passed ∷ refused 36 None ∷ [] }
    -- no rule while a grant is open; then one in the row 0, and no other there; the rows are 0 to 11
    ∷ record { came = calls example_cell (grant 0 ∷ admit 0 keep ∷ cancel 0 ∷ admit 0 keep ∷ admit 0 keep ∷ admit 12 keep ∷ admit 11 keep ∷ []); must = passed ∷ refused 37 None ∷ passed ∷ passed ∷ refused 39 None ∷ refused 38 None ∷ passed ∷ [] }
    -- weights and bounds that can be typed, and the next
    ∷ record { came = sets example_net example_free (rule_of (pos 100 ∷ []) (pos 9)); must = refused 25 None ∷ [] }
    ∷ record { came = sets example_net example_free (rule_of (pos 99 ∷ []) (pos 999999)); must = passed ∷ [] }
    ∷ record { came = sets example_net example_free (rule_of (pos 99 ∷ []) (pos 1000000)); must = refused 25 None ∷ [] }
    -- 11, 99 and 891 at the three places, and then 8,019; of 99 it would be 72,171
    ∷ record { came = works steep (rule_of (pos 11 ∷ []) (pos 5)); must = worked_to (pos 11 ∷ pos 99 ∷ pos 891 ∷ pos 8019 ∷ []) (pos 5) 3 ∷ [] }
    ∷ record { came = works steep (rule_of (pos 99 ∷ []) (pos 5)); must = refused 21 None ∷ [] }
    -- a monitor over 63 places is set, over 64 it is shut; so is a board over 53
    ∷ record { came = sets (with_places 63) example_free zone; must = passed ∷ [] }
    ∷ record { came = sets (with_places 64) example_free zone; must = refused 24 None ∷ [] }
    ∷ record { came = calls (with_layer board (plant_alone (with_places 52) example_free)) (admit 0 zone ∷ []); must = passed ∷ [] }
    ∷ record { came = calls (with_layer board (plant_alone (with_places 53) example_free)) (admit 0 zone ∷ []); must = refused 24 None ∷ [] }
    -- the first place of the line is full: nothing can be given there, nor given back
    ∷ record { came = outcome_of (finish_answer line line_free 0) ∷ outcome_of (back_answer line line_free 1) ∷ []; must = refused 40 (Some 0) ∷ refused 40 (Some 0) ∷ [] }
    ∷ []

-- the rule in force on the worked example's pile: Z ≤ 2, which no round changes, at the monitor's place
abbrev pub example_rules : List InForce
example_rules = record { place = 3; typed = zone; worked = unchanged zone } ∷ []

-- the worked example's pile is one that can be built, so that the promise is about something
abbrev pub ExampleBuilt : Type 0
ExampleBuilt = Built example_cell example_rules
