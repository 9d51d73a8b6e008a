-- Which refusal a call answers: the checks of each call in their order, with the whole fault of each.
--   Check          what refuses a call: a fact, with the answer where it is so; or a fact of places, with the answer at the lowest one
--   Checked k cs a the answer a is what the checks cs give, one after another, over k places: that of the first that refuses, else accepted
--   of_move, at_place, of_setting   a refusal of a move, of a move at a place, and of a setting
--   Crowded        the place may come over its limit: what is free there, without what the move takes, with the most that the move and all
--                  open grants may bring
--   last_check     what is asked of a rule once it was worked, or the refusal of working it
--   no_move        there is no such move; short_at, crowded_at, over_at: a place is short, has no room, or would go over its limit
--   begin_list     what a grant and a report ask for last; few_list: that, and first that fewer grants are open than may be
--   grant_list, report_list, end_list, admit_list   the checks of a grant, of a report, of a commit or a cancel, of an admission
--   row_list       the checks of setting a row of the top layer
--   InOrder, CallsInOrder   of each call on every ledger: its checks
--   SettingInOrder of setting a row of any layer that has rows: its checks
--   NumbersApart   no two refusals have the same number
--   ShutExactly    a layer is shut exactly where it has no rows, or there is no room for them; it then changes nothing
use Rattle.std.specs.Prelude.{◌≡◌, ℕ, ◌+◌, ◌<◌, ◌≤◌, max, true, false, ◌⊎◌, List, [], ◌∷◌, ◌<ℤ◌, Some, None, Ok, Err, Result}
use Rattle.model.specs.declared.refusal.Refusal.{Refusal}
use Rattle.model.specs.declared.refusal.Refusal.TheVariants.{NoMove, Uncontrollable, Controllable, TooManyOpen, Short, NoRoom, NotOpen, GrantsOpen, NoRow, Shut, RowInUse, Broken, OverLimit}
use Rattle.model.specs.declared.fault.Fault.{Fault}
use Rattle.model.specs.Refusals.{refusal_number}
use Rattle.model.specs.Sizes.{most_open, most_all_places}
use Rattle.model.specs.Net.{Net}
use Rattle.model.specs.Plant.{Answer}
use Rattle.model.specs.Rule.{Rule, Worked, weighted_free}
use Rattle.model.specs.Working.{work}
use Rattle.model.specs.Layer.{Row, Pile, pile_net, is_shut, layer_net, layer_free, row_count, open_rows, top_answer}
use Rattle.model.specs.Ledger.{Ledger, grant, commit, cancel, report, admit, net_under, free_under, open_count, reserved, answer}

pub data Check : Type 1 where
  if_so : Type 0 → Answer → Check
  at_lowest : (ℕ → Type 0) → (ℕ → Answer) → Check

abbrev pub Checked : ℕ → List Check → Answer → Type 0
Checked k [] a = a ≡ Ok tt
Checked k (if_so P e ∷ cs) a = (P → a ≡ e) × ((P → ⊥) → Checked k cs a)
Checked k (at_lowest P e ∷ cs) a = ((p : ℕ) → p < k → P p → ((j : ℕ) → j < p → P j → ⊥) → a ≡ e p) × (((p : ℕ) → p < k → P p → ⊥) → Checked k cs a)

abbrev pub of_move : Refusal → ℕ → Answer
of_move why t = Err (record { refusal = why; transition = Some t; spot = None })

abbrev pub at_place : Net → Refusal → ℕ → ℕ → Answer
at_place n why t p = Err (record { refusal = why; transition = Some t; spot = Some (record { place = p; layer = n.layer p; row = n.row p }) })

abbrev pub of_setting : Refusal → Answer
of_setting why = Err (record { refusal = why; transition = None; spot = None })

abbrev pub Crowded : Net → (ℕ → ℕ) → (ℕ → ℕ) → ℕ → ℕ → Type 0
Crowded n free opened t p = n.limit p + n.take p t < free p + max (n.take p t) (n.give p t) + reserved n opened p

abbrev pub last_check : Net → (ℕ → ℕ) → Result Worked Fault → Check
last_check n free (Err f) = if_so (Unit {0}) (Err f)
last_check n free (Ok w) = if_so (w.bound <ℤ weighted_free n w.weight free) (of_setting Broken)

abbrev pub no_move : Net → ℕ → Check
no_move n t = if_so (n.moves ≤ t) (of_move NoMove t)

abbrev pub short_at : Net → (ℕ → ℕ) → ℕ → Check
short_at n free t = at_lowest (λ p. free p < n.take p t) (at_place n Short t)

abbrev pub crowded_at : Net → (ℕ → ℕ) → (ℕ → ℕ) → ℕ → Check
crowded_at n free opened t = at_lowest (Crowded n free opened t) (at_place n NoRoom t)

-- a place would go over its limit with so many tokens more
abbrev pub over_at : Net → (ℕ → ℕ) → (ℕ → ℕ) → ℕ → Check
over_at n free more t = at_lowest (λ p. n.limit p < free p + more p) (at_place n OverLimit t)

-- what begins needs its tokens, and room for itself and all open grants
abbrev pub begin_list : Net → (ℕ → ℕ) → (ℕ → ℕ) → ℕ → List Check
begin_list n free opened t = short_at n free t ∷ crowded_at n free opened t ∷ []

abbrev pub few_list : Net → (ℕ → ℕ) → (ℕ → ℕ) → ℕ → List Check
few_list n free opened t = if_so (most_open ≤ open_count n opened) (of_move TooManyOpen t) ∷ begin_list n free opened t

abbrev pub grant_list : Net → (ℕ → ℕ) → (ℕ → ℕ) → ℕ → List Check
grant_list n free opened t = no_move n t ∷ if_so (n.controllable t ≡ false) (of_move Uncontrollable t) ∷ few_list n free opened t

abbrev pub report_list : Net → (ℕ → ℕ) → (ℕ → ℕ) → ℕ → List Check
report_list n free opened t = no_move n t ∷ if_so (n.controllable t ≡ true) (of_move Controllable t) ∷ begin_list n free opened t

-- an open grant ends, which brings so many tokens more to each place
abbrev pub end_list : Net → (ℕ → ℕ) → (ℕ → ℕ) → (ℕ → ℕ) → ℕ → List Check
end_list n free opened more t = no_move n t ∷ if_so (opened t ≡ 0) (of_move NotOpen t) ∷ over_at n free more t ∷ []

-- the row r of the top layer, which is shut where there is no room for all its rows
abbrev pub row_list : Pile → ℕ → Result Worked Fault → List Check
row_list p r w =
    if_so (most_all_places < p.below.places + row_count p.top) (of_setting Shut)
    ∷ if_so ((p.rows r).in_use ≡ true) (of_setting RowInUse)
    ∷ last_check p.below p.below_free w
    ∷ []

abbrev pub admit_list : Ledger → ℕ → Rule → List Check
admit_list l r typed =
    if_so (1 ≤ open_count (net_under l) l.opened) (of_setting GrantsOpen)
    ∷ if_so (open_rows l.pile.top ≤ r) (of_setting NoRow)
    ∷ row_list l.pile r (work l.pile.below typed)

pub record InOrder (l : Ledger) (n : Net) (free : ℕ → ℕ) : Type 0 where
  pub of_grant : (t : ℕ) → Checked n.places (grant_list n free l.opened t) (answer l (grant t))
  pub of_commit : (t : ℕ) → Checked n.places (end_list n free l.opened (λ p. n.give p t) t) (answer l (commit t))
  pub of_cancel : (t : ℕ) → Checked n.places (end_list n free l.opened (λ p. n.take p t) t) (answer l (cancel t))
  pub of_report : (t : ℕ) → Checked n.places (report_list n free l.opened t) (answer l (report t))
  pub of_admit : (r : ℕ) (typed : Rule) → Checked n.places (admit_list l r typed) (answer l (admit r typed))

abbrev pub CallsInOrder : Type 0
CallsInOrder = (l : Ledger) → InOrder l (net_under l) (free_under l)

abbrev pub SettingInOrder : Type 0
SettingInOrder = (p : Pile) (r : ℕ) (typed : Rule) → 1 ≤ row_count p.top → Checked (pile_net p).places (row_list p r (work p.below typed)) (top_answer p r typed)

abbrev pub NumbersApart : Type 0
NumbersApart = (r s : Refusal) → refusal_number r ≡ refusal_number s → r ≡ s

abbrev pub ShutExactly : Type 0
ShutExactly = (size : ℕ) (n : Net) →
    (((size ≡ 0) ⊎ (most_all_places < n.places + size)) → is_shut size n ≡ true)
    × (1 ≤ size → n.places + size ≤ most_all_places → is_shut size n ≡ false)
    × (is_shut size n ≡ true → (free : ℕ → ℕ) (rows : ℕ → Row) → (layer_net size n rows ≡ n) × (layer_free size n free rows ≡ free))
