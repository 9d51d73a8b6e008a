-- Orders, and what they answer.
--   Order            what an order line asks for: a call of the ledger, the free tokens of a place, or nothing, since it has not the shape
--                    of an order or a name in it is not known
--   with_move, with_rule, with_place   an order whose name is to be a move, a rule, or a place of the pile
--   by_word          the order of a word and a name
--   order_of c fs    the order that a line with the fields fs is
--   name_at ns i     the name at i
--   move_named, place_named   how the move and the place of a fault are printed
--   answer_line      what is printed of an answer
--   obeyed           what an order prints, on a ledger; next_ledger: the ledger after it
--   answers          what a list of order lines prints, each meeting what those before it left
--   calls_in, calls_of   the calls that an order makes, one or none, and those of a list of order lines
--   start_monitor, start_pile   a fixed monitor on the cell's plant, blank; and a board on it after its rule is set
--   BuiltCell        the pile that the ledger is opened on is one that can be built, with the fixed rule in force, typed and worked; the
--                    promise holds after every list of calls on it; and the order lines ys after the lines xs print what ys alone would
--                    print on the ledger after the calls of xs
--   Started          where the orders pass the checks of the whole text and the fixed rule can be set, the pile is BuiltCell
--   Answered         where the orders pass the checks of the whole text and the fixed rule can be set, the pile is BuiltCell, and the bytes
--                    out are what the lines of the orders print, one after the other, from the new ledger on that pile
--   ran_with         what the orders print, by what setting the fixed rule answers
--   ran_on           the same, by what the checks of the whole orders text answer
--   ran c orders     what the orders print on the cell
use Rattle.std.specs.Prelude.{◌≡◌, ℕ, cond, List, [], ◌∷◌, ◌++◌, Some, None, Ok, Err, Option, Result, codes, slice_index_or}
use Rattle.std.specs.Str.{bytes_eq}
use Rattle.model.specs.declared.refusal.Refusal.TheVariants.{NoRecord, NameUnknown}
use Rattle.model.specs.declared.fault.Spot.{Spot}
use Rattle.model.specs.Plant.{Answer}
use Rattle.model.specs.Rule.{Worked}
use Rattle.model.specs.Working.{work}
use Rattle.model.specs.Layer.{Pile, monitor, board, plant_alone, with_layer, monitor_answer, in_force, Built}
use Rattle.model.specs.Ledger.{Ledger, Call, grant, commit, cancel, report, admit, new_ledger, free_under, set_by, answer, next, run}
use Rattle.ledger.specs.Calls.{Promised}
use Rattle.formats.specs.declared.fault.TextFault.{TextFault}
use Rattle.formats.specs.Words.{fields, lines, is_known, index_of}
use Rattle.formats.specs.Texts.{fault}
use Rattle.texts.specs.Lines.{text_check}
use Rattle.panel.specs.Prints.{bad_line, at_line, ok_line, refused_line, no_line}
use Rattle.panel.specs.Cells.{Cell, pile_names}

pub data Order : Type 0 where
  a_call : Call → Order
  a_show : ℕ → Order
  no_shape : Order
  no_name : Order

abbrev pub with_move : Cell → (ℕ → Call) → List ℕ → Order
with_move c call n = cond (is_known c.moves n) (a_call (call (index_of c.moves n))) no_name

abbrev pub with_rule : Cell → List ℕ → Order
with_rule c n = cond (is_known c.rules n) (a_call (admit (index_of c.rules n) (c.typed (index_of c.rules n)))) no_name

abbrev pub with_place : Cell → List ℕ → Order
with_place c n = cond (is_known (pile_names c) n) (a_show (index_of (pile_names c) n)) no_name

abbrev pub by_word : Cell → List ℕ → List ℕ → Order
by_word c w n =
    cond (bytes_eq w (codes "grant")) (with_move c grant n)
    (cond (bytes_eq w (codes "commit")) (with_move c commit n)
    (cond (bytes_eq w (codes "cancel")) (with_move c cancel n)
    (cond (bytes_eq w (codes "report")) (with_move c report n)
    (cond (bytes_eq w (codes "admit")) (with_rule c n)
    (cond (bytes_eq w (codes "show")) (with_place c n) no_shape)))))

-- an order is its word and one more field
abbrev pub order_of : Cell → List (List ℕ) → Order
order_of c [] = no_shape
order_of c (w ∷ []) = no_shape
order_of c (w ∷ n ∷ []) = by_word c w n
order_of c (w ∷ n ∷ m ∷ fs) = no_shape

-- ---- what is printed
abbrev pub name_at : List (List ℕ) → ℕ → List ℕ
name_at ns i = slice_index_or ns i (codes "-")

abbrev pub move_named : Cell → Option ℕ → List ℕ
move_named c (Some t) = name_at c.moves t
move_named c None = codes "-"

abbrev pub place_named : Cell → Option Spot → List ℕ
place_named c (Some s) = name_at (pile_names c) s.place
place_named c None = codes "-"

abbrev pub answer_line : Cell → Answer → List ℕ
answer_line c (Ok u) = ok_line
answer_line c (Err f) = refused_line f.refusal (move_named c f.transition) (place_named c f.spot)

abbrev pub obeyed : Cell → Ledger → Order → List ℕ
obeyed c l (a_call k) = answer_line c (answer l k)
obeyed c l (a_show p) = at_line (name_at (pile_names c) p) (free_under l p)
obeyed c l no_shape = no_line NoRecord
obeyed c l no_name = no_line NameUnknown

abbrev pub next_ledger : Ledger → Order → Ledger
next_ledger l (a_call k) = next l k
next_ledger l (a_show p) = l
next_ledger l no_shape = l
next_ledger l no_name = l

abbrev pub answers : Cell → Ledger → List (List ℕ) → List ℕ
answers c l [] = []
answers c l (x ∷ xs) = obeyed c l (order_of c (fields x)) ++ answers c (next_ledger l (order_of c (fields x))) xs

abbrev pub calls_in : Order → List Call
calls_in (a_call k) = k ∷ []
calls_in (a_show p) = []
calls_in no_shape = []
calls_in no_name = []

abbrev pub calls_of : Cell → List (List ℕ) → List Call
calls_of c [] = []
calls_of c (x ∷ xs) = calls_in (order_of c (fields x)) ++ calls_of c xs

-- ---- a run
abbrev pub start_monitor : Cell → Pile
start_monitor c = with_layer monitor (plant_alone c.net c.free)

abbrev pub start_pile : Cell → Pile
start_pile c = with_layer board (set_by (start_monitor c) 0 (work c.net c.typed_fixed))

pub record BuiltCell (c : Cell) : Type 0 where
  pub worked : Worked
  pub works : work c.net c.typed_fixed ≡ Ok worked
  pub built : Built (start_pile c) (in_force (start_monitor c) 0 c.typed_fixed worked ∷ [])
  pub promise : (cs : List Call) → Promised (start_pile c) (in_force (start_monitor c) 0 c.typed_fixed worked ∷ []) cs (run (new_ledger (start_pile c)) cs)
  pub follows : (xs ys : List (List ℕ)) → answers c (new_ledger (start_pile c)) (xs ++ ys) ≡ answers c (new_ledger (start_pile c)) xs ++ answers c (run (new_ledger (start_pile c)) (calls_of c xs)) ys

abbrev pub Started : Cell → List ℕ → Type 0
Started c orders = Ok tt ≡ text_check orders → Ok tt ≡ monitor_answer (start_monitor c) c.typed_fixed → BuiltCell c

abbrev pub Answered : Cell → List ℕ → List ℕ → Type 0
Answered c orders out = Ok tt ≡ text_check orders → Ok tt ≡ monitor_answer (start_monitor c) c.typed_fixed → BuiltCell c × (out ≡ answers c (new_ledger (start_pile c)) (lines orders))

abbrev pub ran_with : Cell → List ℕ → Answer → List ℕ
ran_with c orders (Err f) = bad_line (codes "fixed") (fault f.refusal 1 0)
ran_with c orders (Ok u) = answers c (new_ledger (start_pile c)) (lines orders)

abbrev pub ran_on : Cell → List ℕ → Result (Unit {0}) TextFault → List ℕ
ran_on c orders (Err f) = bad_line (codes "orders") f
ran_on c orders (Ok u) = ran_with c orders (monitor_answer (start_monitor c) c.typed_fixed)

abbrev pub ran : Cell → List ℕ → List ℕ
ran c orders = ran_on c orders (text_check orders)
