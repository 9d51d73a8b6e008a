-- Layers: monitors and boards put on a plant, each a plant again with control places of its own.
--   Row           a row of a layer, plain: what each move takes and gives there, its free tokens, and whether it is in use
--   blank         a row without a rule
--   is_shut       a layer of so many rows over the net adds no place: there is no room for its rows, or it has none
--   own_place     whether a place is one of the layer's rows
--   layer_net     the net of a layer, over the net below and its rows, whatever they hold
--   layer_free    the tokens at each place of it, over the tokens below
--   next_layer    one above the highest layer of the places below k
--   masked_take   what a row takes: nothing at an uncontrollable move; masked_give: nothing at a missing one
--   row_fault     the fault of a move at a row: its place, the layer's number and the row's
--   rows_begin, rows_finish, rows_back            what the rows of a layer answer to a move
--   row_with      a row with other tokens
--   rows_begun, rows_finished, rows_gone_back     the rows after it
--   ruled_row     the row of a worked rule L'·m ≤ b': arcs −L'·D, and b' − L'·free tokens
--   holds_now     refused if the worked rule does not hold of the tokens that stand now
--   row_answer    what setting a row answers, where the layer has the row
--   change_row    the rows with one changed
--   Top           what stands on top of a pile: the bare plant, a fixed monitor or a board
--   row_count     the rows of a layer; open_rows: those that can be admitted to
--   Pile          a plant with its layers, by its top layer: the net and the tokens below it, and its rows
--   pile_net, pile_free   the net of a pile, and its tokens
--   pile_begun, pile_finished, pile_gone_back     the pile after an accepted begin, finish or back
--   plant_alone   the pile of a bare plant
--   with_layer    a pile with one more layer, of blank rows
--   with_rule     a pile of which one row of the top layer has been set
--   row_place     the control place of a row of the top layer
--   top_answer    what setting a row of the top layer answers
--   monitor_answer, board_answer   what setting the monitor's row, or row r of the board, answers
--   InForce       a rule in force, typed and worked, and the control place of its row; in_force: the one just set
--   Built         the piles that the layers' own calls can build, with the rules in force
use Rattle.std.specs.Prelude.{◌≡◌, ℕ, zero, suc, ◌+◌, ◌-◌, ◌≤◌, max, Bool, true, false, cond, not, ◌&&◌, ◌||◌, ltb, List, [], ◌∷◌, ◌-ℤ◌, Some, Ok, Err, Result, ◌==◌, int_le, nat_le, nat_lt}
use Rattle.model.specs.declared.refusal.Refusal.{Refusal}
use Rattle.model.specs.declared.refusal.Refusal.TheVariants.{Short, OverLimit, NoRow, Shut, RowInUse, Broken}
use Rattle.model.specs.declared.fault.Fault.{Fault}
use Rattle.model.specs.Sizes.{most_all_places, control_limit, monitor_rows, board_rows}
use Rattle.model.specs.Net.{Net, Ranges}
use Rattle.model.specs.Plant.{Answer, lowest, refuse_at, setting_fault, refuse_unless, ◌else_by◌, begun, finished, gone_back}
use Rattle.model.specs.Rule.{Rule, Worked, weighted_free, raise, positive, negative}
use Rattle.model.specs.Working.{work}

pub record Row : Type 0 where
  pub take : ℕ → ℕ
  pub give : ℕ → ℕ
  pub free : ℕ
  pub in_use : Bool

abbrev pub blank : Row
blank = record { take = λ t. 0; give = λ t. 0; free = 0; in_use = false }

abbrev pub is_shut : ℕ → Net → Bool
is_shut size n = size == 0 || nat_lt most_all_places (n.places + size)

abbrev pub own_place : ℕ → Net → ℕ → Bool
own_place size n p = nat_le n.places p && nat_lt p (n.places + size)

abbrev pub next_layer : ℕ → (ℕ → ℕ) → ℕ
next_layer zero layer = 1
next_layer (suc k) layer = max (next_layer k layer) (layer k + 1)

abbrev pub masked_take : Net → Row → ℕ → ℕ
masked_take n r t = cond (n.controllable t) (r.take t) 0

abbrev pub masked_give : Net → Row → ℕ → ℕ
masked_give n r t = cond (nat_lt t n.moves) (r.give t) 0

abbrev pub layer_net : ℕ → Net → (ℕ → Row) → Net
layer_net size n rows = cond (is_shut size n) n (record {
  ground_places = n.ground_places;
  places = n.places + size;
  moves = n.moves;
  controllable = n.controllable;
  take = λ p t. cond (own_place size n p) (masked_take n (rows (p - n.places)) t) (n.take p t);
  give = λ p t. cond (own_place size n p) (masked_give n (rows (p - n.places)) t) (n.give p t);
  limit = λ p. cond (own_place size n p) control_limit (n.limit p);
  layer = λ p. cond (own_place size n p) (next_layer n.places n.layer) (n.layer p);
  row = λ p. cond (own_place size n p) (p - n.places) (n.row p);
})

abbrev pub layer_free : ℕ → Net → (ℕ → ℕ) → (ℕ → Row) → ℕ → ℕ
layer_free size n free rows p = cond (not (is_shut size n) && own_place size n p) (rows (p - n.places)).free (free p)

abbrev pub row_fault : Net → Refusal → ℕ → ℕ → Fault
row_fault n why t r = record {
  refusal = why;
  transition = Some t;
  spot = Some (record { place = n.places + r; layer = next_layer n.places n.layer; row = r });
}

abbrev pub rows_begin : ℕ → Net → (ℕ → Row) → ℕ → Answer
rows_begin size n rows t = refuse_at (row_fault n Short t) (lowest (λ r. ltb (rows r).free (masked_take n (rows r) t)) 0 size)

abbrev pub rows_finish : ℕ → Net → (ℕ → Row) → ℕ → Answer
rows_finish size n rows t = refuse_at (row_fault n OverLimit t) (lowest (λ r. ltb control_limit ((rows r).free + masked_give n (rows r) t)) 0 size)

abbrev pub rows_back : ℕ → Net → (ℕ → Row) → ℕ → Answer
rows_back size n rows t = refuse_at (row_fault n OverLimit t) (lowest (λ r. ltb control_limit ((rows r).free + masked_take n (rows r) t)) 0 size)

abbrev pub row_with : Row → ℕ → Row
row_with r free = record { take = r.take; give = r.give; free = free; in_use = r.in_use }

abbrev pub rows_begun : Net → (ℕ → Row) → ℕ → ℕ → Row
rows_begun n rows t r = row_with (rows r) ((rows r).free - masked_take n (rows r) t)

abbrev pub rows_finished : Net → (ℕ → Row) → ℕ → ℕ → Row
rows_finished n rows t r = row_with (rows r) ((rows r).free + masked_give n (rows r) t)

abbrev pub rows_gone_back : Net → (ℕ → Row) → ℕ → ℕ → Row
rows_gone_back n rows t r = row_with (rows r) ((rows r).free + masked_take n (rows r) t)

abbrev pub ruled_row : Net → (ℕ → ℕ) → Worked → Row
ruled_row n free w = record {
  take = λ t. positive (raise n w.weight t);
  give = λ t. negative (raise n w.weight t);
  free = positive (w.bound -ℤ weighted_free n w.weight free);
  in_use = true;
}

abbrev pub holds_now : Net → (ℕ → ℕ) → Result Worked Fault → Answer
holds_now n free (Err f) = Err f
holds_now n free (Ok w) = refuse_unless (int_le (weighted_free n w.weight free) w.bound) (setting_fault Broken)

abbrev pub row_answer : ℕ → Net → (ℕ → ℕ) → (ℕ → Row) → ℕ → Rule → Answer
row_answer size n free rows r typed =
    refuse_unless (not (is_shut size n)) (setting_fault Shut)
    else_by refuse_unless (not (rows r).in_use) (setting_fault RowInUse)
    else_by holds_now n free (work n typed)

abbrev pub change_row : (ℕ → Row) → ℕ → Row → ℕ → Row
change_row rows r new i = cond (i == r) new (rows i)

pub data Top : Type 0 where
  plant : Top
  monitor : Top
  board : Top

abbrev pub row_count : Top → ℕ
row_count plant = 0
row_count monitor = monitor_rows
row_count board = board_rows

abbrev pub open_rows : Top → ℕ
open_rows plant = 0
open_rows monitor = 0
open_rows board = board_rows

pub record Pile : Type 0 where
  pub top : Top
  pub below : Net
  pub below_free : ℕ → ℕ
  pub rows : ℕ → Row

abbrev pub pile_net : Pile → Net
pile_net p = layer_net (row_count p.top) p.below p.rows

abbrev pub pile_free : Pile → ℕ → ℕ
pile_free p = layer_free (row_count p.top) p.below p.below_free p.rows

abbrev pub plant_alone : Net → (ℕ → ℕ) → Pile
plant_alone n free = record { top = plant; below = n; below_free = free; rows = λ r. blank }

-- an accepted begin, finish or back moves the tokens below and those of the rows
abbrev pub pile_begun : Pile → ℕ → Pile
pile_begun p t = record {
  top = p.top;
  below = p.below;
  below_free = begun p.below p.below_free t;
  rows = rows_begun p.below p.rows t;
}

abbrev pub pile_finished : Pile → ℕ → Pile
pile_finished p t = record {
  top = p.top;
  below = p.below;
  below_free = finished p.below p.below_free t;
  rows = rows_finished p.below p.rows t;
}

abbrev pub pile_gone_back : Pile → ℕ → Pile
pile_gone_back p t = record {
  top = p.top;
  below = p.below;
  below_free = gone_back p.below p.below_free t;
  rows = rows_gone_back p.below p.rows t;
}

abbrev pub with_layer : Top → Pile → Pile
with_layer top p = record { top = top; below = pile_net p; below_free = pile_free p; rows = λ r. blank }

abbrev pub row_place : Pile → ℕ → ℕ
row_place p r = p.below.places + r

abbrev pub with_rule : Pile → ℕ → Worked → Pile
with_rule p r w = record {
  top = p.top;
  below = p.below;
  below_free = p.below_free;
  rows = change_row p.rows r (ruled_row p.below p.below_free w);
}

abbrev pub top_answer : Pile → ℕ → Rule → Answer
top_answer p r typed = row_answer (row_count p.top) p.below p.below_free p.rows r typed

abbrev pub monitor_answer : Pile → Rule → Answer
monitor_answer p typed = top_answer p 0 typed

abbrev pub board_answer : Pile → ℕ → Rule → Answer
board_answer p r typed = refuse_unless (nat_lt r (open_rows p.top)) (setting_fault NoRow) else_by top_answer p r typed

pub record InForce : Type 0 where
  pub place : ℕ
  pub typed : Rule
  pub worked : Worked

abbrev pub in_force : Pile → ℕ → Rule → Worked → InForce
in_force p r typed worked = record { place = row_place p r; typed = typed; worked = worked }

pub data Built : Pile → List InForce → Type 0 where
  -- a plant that keeps the ranges, has no control places and holds no more than its limits
  bare : (n : Net) (free : ℕ → ℕ) → Ranges n → n.places ≡ n.ground_places → ((i : ℕ) → free i ≤ n.limit i) →
      Built (plant_alone n free) []
  -- a layer put on it, its rows blank
  monitored : {p : Pile} {rs : List InForce} → Built p rs → Built (with_layer monitor p) rs
  boarded : {p : Pile} {rs : List InForce} → Built p rs → Built (with_layer board p) rs
  -- a row set, while its layer is on top
  monitor_set : {p : Pile} {rs : List InForce} (typed : Rule) (worked : Worked) → Built p rs → p.top ≡ monitor →
      monitor_answer p typed ≡ Ok tt → work p.below typed ≡ Ok worked →
      Built (with_rule p 0 worked) (in_force p 0 typed worked ∷ rs)
  board_set : {p : Pile} {rs : List InForce} (r : ℕ) (typed : Rule) (worked : Worked) → Built p rs →
      board_answer p r typed ≡ Ok tt → work p.below typed ≡ Ok worked →
      Built (with_rule p r worked) (in_force p r typed worked ∷ rs)
