-- The checks of each call, in their order.
use Rattle.std.proofs.Common.{◌≡◌, ℕ, ◌+◌, ◌<◌, ◌≤◌, Bool, true, false, not, eqb, ltb, List, [], ◌∷◌, ◌<ℤ◌, Ok, Err, Result, sym, refl, ap, ◌∙◌, subst, inl, inr, arith, le-ltb, lt-ltb, ltb-true}
use Rattle.std.proofs.lemmas.Bool.{cases_lt, false_from_ne_true, true_from_ne_false}
use Rattle.std.proofs.lemmas.Bool.Decides.{nat_tests}
use Rattle.std.proofs.lemmas.Int.{ints}
use Rattle.std.specs.Prelude.{int_le}
use Rattle.model.specs.declared.refusal.Refusal.TheVariants.{NoMove, Uncontrollable, Controllable, TooManyOpen, Short, NoRoom, NotOpen, GrantsOpen, NoRow, Shut, RowInUse, Broken, OverLimit}
use Rattle.model.specs.declared.fault.Fault.{Fault}
use Rattle.model.specs.Sizes.{most_open, most_all_places}
use Rattle.model.specs.Net.{Net}
use Rattle.model.specs.Plant.{Answer, lowest, fault_of, fault_at, setting_fault, refuse_at, refuse_unless, ◌else_by◌, known, short_place, over_place, begin_answer}
use Rattle.model.specs.Rule.{Rule, Worked, weighted_free}
use Rattle.model.specs.Working.{work}
use Rattle.model.specs.Layer.{Top, Pile, pile_net, is_shut, row_count, open_rows, holds_now, top_answer, board_answer}
use Rattle.model.specs.Layer.Top.{plant, monitor, board}
use Rattle.model.specs.Ledger.{Ledger, net_under, free_under, open_count, crowded, room_answer, is_open, grant_answer, report_answer}
use Rattle.model.specs.Order.{Check, Checked, Crowded, last_check, no_move, short_at, crowded_at, over_at, begin_list, few_list, grant_list, report_list, end_list, row_list, admit_list, of_move, of_setting, CallsInOrder, SettingInOrder, ShutExactly}
use Rattle.model.specs.Order.Check.{if_so, at_lowest}
use Rattle.model.proofs.Layering.{net_shuts, free_shuts}
use Rattle.model.proofs.Checks.{lowest_is, lowest_all_fail, ok_else, known_ok}

not_le : (a b : ℕ) → (b ≤ a → ⊥) → a < b
not_le a b n = elim (cases_lt a b) [
  | inl l ↦ l
  | inr h ↦ absurd (n h)
]

else_end : (a : Answer) → (a else_by Ok tt) ≡ a
else_end (Ok u) = refl
else_end (Err f) = refl

else_assoc : (a b c : Answer) → ((a else_by b) else_by c) ≡ (a else_by b else_by c)
else_assoc (Ok u) b c = refl
else_assoc (Err f) b c = refl

-- ---- one check and the rest
module _ (k : ℕ) (cs : List Check) where
  step_if : (P : Type 0) (b : Bool) (f : Fault) (rest : Answer) → (P → b ≡ false) → ((P → ⊥) → b ≡ true) → (b ≡ true → Checked k cs rest) → Checked k (if_so P (Err f) ∷ cs) (refuse_unless b f else_by rest)
  step_if P b f rest refused passed more = (
    λ h. ap (λ (x : Bool). refuse_unless x f else_by rest) (refused h),
    λ n. subst (λ (x : Bool). Checked k cs (refuse_unless x f else_by rest)) (sym (passed n)) (more (passed n)),
  )

  step_at : (P : ℕ → Type 0) (test : ℕ → Bool) (g : ℕ → Fault) (rest : Answer) → ((p : ℕ) → P p → test p ≡ true) → ((p : ℕ) → test p ≡ true → P p) → Checked k cs rest → Checked k (at_lowest P (λ p. Err (g p)) ∷ cs) (refuse_at g (lowest test 0 k) else_by rest)
  step_at P test g rest to from more = (
    λ p l h below. ap (λ o. refuse_at g o else_by rest) (lowest_is test k p l (to p h) (λ j m. false_from_ne_true (test j) (λ e. below j m (from j e)))),
    λ none. subst (λ o. Checked k cs (refuse_at g o else_by rest)) (sym (lowest_all_fail test k (λ j l. false_from_ne_true (test j) (λ e. none j l (from j e))))) more,
  )

  step_lt : (a b : ℕ) (f : Fault) (rest : Answer) → (a < b → Checked k cs rest) → Checked k (if_so (b ≤ a) (Err f) ∷ cs) (refuse_unless (ltb a b) f else_by rest)
  step_lt a b f rest more = step_if (b ≤ a) (ltb a b) f rest (le-ltb a b) (λ n. lt-ltb a b (not_le a b n)) (λ e. more (ltb-true a b e))

-- ---- the checks that several calls have
module _ (n : Net) (free : ℕ → ℕ) (t : ℕ) (cs : List Check) where
  after_known : (rest : Answer) → (t < n.moves → Checked n.places cs rest) → Checked n.places (no_move n t ∷ cs) (known n t else_by rest)
  after_known rest more = step_lt n.places cs t n.moves (fault_of NoMove t) rest more

  after_short : (rest : Answer) → t < n.moves → Checked n.places cs rest → Checked n.places (short_at n free t ∷ cs) (begin_answer n free t else_by rest)
  after_short rest l more = subst (λ (a : Answer). Checked n.places (short_at n free t ∷ cs) (a else_by rest)) (sym (ok_else (known n t) (refuse_at (fault_at n Short t) (short_place n free t)) (known_ok n t l)))
      (step_at n.places cs (λ p. free p < n.take p t) (λ p. ltb (free p) (n.take p t)) (fault_at n Short t) rest (λ p h. lt-ltb (free p) (n.take p t) h) (λ p e. ltb-true (free p) (n.take p t) e) more)

module _ (n : Net) (free opened : ℕ → ℕ) (t : ℕ) where
  crowds : Checked n.places (crowded_at n free opened t ∷ []) (room_answer n free opened t)
  crowds = subst (λ (a : Answer). Checked n.places (crowded_at n free opened t ∷ []) a) (else_end (room_answer n free opened t))
      (step_at n.places [] (Crowded n free opened t) (crowded n free opened t) (fault_at n NoRoom t) (Ok tt) (λ p h. lt-ltb _ _ h) (λ p e. ltb-true _ _ e) refl)

  overs : (more : ℕ → ℕ) → t < n.moves → Checked n.places (over_at n free more t ∷ []) (known n t else_by refuse_at (fault_at n OverLimit t) (over_place n free more))
  overs more l = subst (λ (a : Answer). Checked n.places (over_at n free more t ∷ []) a)
      (else_end (refuse_at (fault_at n OverLimit t) (over_place n free more)) ∙ sym (ok_else (known n t) (refuse_at (fault_at n OverLimit t) (over_place n free more)) (known_ok n t l)))
      (step_at n.places [] (λ p. n.limit p < free p + more p) (λ p. ltb (n.limit p) (free p + more p)) (fault_at n OverLimit t) (Ok tt) (λ p h. lt-ltb (n.limit p) (free p + more p) h) (λ p e. ltb-true (n.limit p) (free p + more p) e) refl)

  after_open : (cs : List Check) (rest : Answer) → Checked n.places cs rest → Checked n.places (if_so (opened t ≡ 0) (of_move NotOpen t) ∷ cs) (refuse_unless (ltb 0 (opened t)) (fault_of NotOpen t) else_by rest)
  after_open cs rest more = step_if n.places cs (opened t ≡ 0) (ltb 0 (opened t)) (fault_of NotOpen t) rest (λ e. le-ltb 0 (opened t) (omega (arith, e))) (λ n. lt-ltb 0 (opened t) (not_le 0 (opened t) (λ h. n (omega (arith, h))))) (λ e. more)

  begins : t < n.moves → Checked n.places (begin_list n free opened t) (begin_answer n free t else_by room_answer n free opened t)
  begins l = after_short n free t (crowded_at n free opened t ∷ []) (room_answer n free opened t) l crowds

  abbrev rest : Answer
  rest = begin_answer n free t else_by room_answer n free opened t

  abbrev controls : Answer
  controls = refuse_unless (n.controllable t) (fault_of Uncontrollable t)

  abbrev few : Answer
  few = refuse_unless (ltb (open_count n opened) most_open) (fault_of TooManyOpen t)

  granted : Checked n.places (grant_list n free opened t) (grant_answer n free opened t)
  granted =
      subst (λ (a : Answer). Checked n.places (grant_list n free opened t) a) (sym (else_assoc (known n t) (controls else_by few) rest ∙ ap (λ (a : Answer). known n t else_by a) (else_assoc controls few rest)))
      (after_known n free t (if_so (n.controllable t ≡ false) (of_move Uncontrollable t) ∷ few_list n free opened t) (controls else_by few else_by rest) (λ l.
      step_if n.places (few_list n free opened t) (n.controllable t ≡ false) (n.controllable t) (fault_of Uncontrollable t) (few else_by rest) (λ e. e) (true_from_ne_false (n.controllable t)) (λ c.
      step_lt n.places (begin_list n free opened t) (open_count n opened) most_open (fault_of TooManyOpen t) rest (λ m. begins l))))

  ended : (more : ℕ → ℕ) → Checked n.places (end_list n free opened more t) (known n t else_by is_open opened t else_by known n t else_by refuse_at (fault_at n OverLimit t) (over_place n free more))
  ended more =
      let over = known n t else_by refuse_at (fault_at n OverLimit t) (over_place n free more) in
      after_known n free t (if_so (opened t ≡ 0) (of_move NotOpen t) ∷ over_at n free more t ∷ []) (is_open opened t else_by over) (λ l. after_open (over_at n free more t ∷ []) over (overs more l))

  reported : Checked n.places (report_list n free opened t) (report_answer n free opened t)
  reported = after_known n free t (if_so (n.controllable t ≡ true) (of_move Controllable t) ∷ begin_list n free opened t) (refuse_unless (not (n.controllable t)) (fault_of Controllable t) else_by rest) (λ l.
      step_if n.places (begin_list n free opened t) (n.controllable t ≡ true) (not (n.controllable t)) (fault_of Controllable t) rest (λ e. ap not e) (λ m. ap not (false_from_ne_true (n.controllable t) m)) (λ c. begins l))

-- ---- an admission
worked : (k : ℕ) (n : Net) (free : ℕ → ℕ) (r : Result Worked Fault) → Checked k (last_check n free r ∷ []) (holds_now n free r)
worked k n free (Err f) = (λ u. refl, λ m. absurd (m tt))
worked k n free (Ok w) =
    let low = weighted_free n w.weight free in
    subst (λ (a : Answer). Checked k (last_check n free (Ok w) ∷ []) a) (else_end (refuse_unless (int_le low w.bound) (setting_fault Broken)))
    (step_if k [] (w.bound <ℤ low) (int_le low w.bound) (setting_fault Broken) (Ok tt) (λ h. grind (arith, ints)) (λ m. true_from_ne_false (int_le low w.bound) (λ e. m (grind (arith, ints)))) (λ e. refl))

pub shut_exactly : ShutExactly
shut_exactly size n = (
  λ o. grind (arith, nat_tests, o),
  λ some room. grind (arith, nat_tests, some, room),
  λ e free rows. (net_shuts size n rows e, free_shuts size n rows free e),
)

-- where the top layer has rows, it is shut only for want of room
module _ (p : Pile) (r : ℕ) (typed : Rule) (k : ℕ) (some : 1 ≤ row_count p.top) where
  abbrev own : Bool
  own = (p.rows r).in_use

  abbrev w : Result Worked Fault
  w = work p.below typed

  abbrev held : Answer
  held = holds_now p.below p.below_free w

  set : Checked k (row_list p r w) (top_answer p r typed)
  set =
      step_if k (if_so (own ≡ true) (of_setting RowInUse) ∷ last_check p.below p.below_free w ∷ []) (most_all_places < p.below.places + row_count p.top) (not (is_shut (row_count p.top) p.below)) (setting_fault Shut)
      (refuse_unless (not own) (setting_fault RowInUse) else_by held)
      (λ h. ap not ((shut_exactly (row_count p.top) p.below).0 (inr h)))
      (λ m. ap not ((shut_exactly (row_count p.top) p.below).1 some (elim (cases_lt most_all_places (p.below.places + row_count p.top)) [
        | inl h ↦ absurd (m h)
        | inr h ↦ h
      ])))
      (λ s. step_if k (last_check p.below p.below_free w ∷ []) (own ≡ true) (not own) (setting_fault RowInUse) held (λ h. ap not h) (λ m. ap not (false_from_ne_true own m)) (λ u.
      worked k p.below p.below_free w))

pub setting_in_order : SettingInOrder
setting_in_order p r typed some = set p r typed (pile_net p).places some

some_rows : (top : Top) (r : ℕ) → r < open_rows top → 1 ≤ row_count top
some_rows plant r l = absurd (omega arith)
some_rows monitor r l = absurd (omega arith)
some_rows board r l = omega arith

module _ (l : Ledger) (r : ℕ) (typed : Rule) where
  abbrev places : ℕ
  places = (net_under l).places

  abbrev count : ℕ
  count = open_count (net_under l) l.opened

  admitted : Checked places (admit_list l r typed) (refuse_unless (eqb count 0) (setting_fault GrantsOpen) else_by board_answer l.pile r typed)
  admitted =
      step_if places (if_so (open_rows l.pile.top ≤ r) (of_setting NoRow) ∷ row_list l.pile r (work l.pile.below typed)) (1 ≤ count) (eqb count 0) (setting_fault GrantsOpen) (board_answer l.pile r typed) (λ h. grind (arith, nat_tests)) (λ m. true_from_ne_false (eqb count 0) (λ e. m (grind (arith, nat_tests)))) (λ e.
      step_lt places (row_list l.pile r (work l.pile.below typed)) r (open_rows l.pile.top) (setting_fault NoRow) (top_answer l.pile r typed) (λ there. set l.pile r typed places (some_rows l.pile.top r there)))

pub calls_in_order : CallsInOrder
calls_in_order l = record {
  of_grant = granted (net_under l) (free_under l) l.opened;
  of_commit = λ t. ended (net_under l) (free_under l) l.opened t (λ p. (net_under l).give p t);
  of_cancel = λ t. ended (net_under l) (free_under l) l.opened t (λ p. (net_under l).take p t);
  of_report = reported (net_under l) (free_under l) l.opened;
  of_admit = admitted l;
}
