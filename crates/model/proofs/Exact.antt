-- Exactly when a grant and a report are accepted, by the book.
use Rattle.std.proofs.Common.{◌≡◌, ℕ, zero, suc, ◌+◌, ◌*◌, ◌<◌, ◌≤◌, max, Bool, true, false, not, ltb, ◌⊎◌, List, ℤ, pos, ◌-ℤ◌, Ok, sym, refl, ap, ◌∙◌, subst, inl, inr, arith, ltb-false, ltb-true, le-ltb}
use Rattle.std.proofs.lemmas.Bool.{cases_lt, false_from_ne_true, not-true}
use borrow.Author.Differences.{ints}
use Rattle.model.specs.declared.refusal.Refusal.TheVariants.{Controllable, Short, NoRoom}
use Rattle.model.specs.Net.{Net, sum, incidence}
use Rattle.model.specs.Plant.{fault_of, fault_at, refuse_at, refuse_unless, ◌else_by◌, known, short_place, begin_answer}
use Rattle.model.specs.Rule.{positive}
use Rattle.model.specs.Layer.{InForce, pile_net}
use Rattle.model.specs.Ledger.{reserved, crowded, crowded_place, room_answer, grant_checks, grant_answer, report_answer, net_under, free_under, new_ledger, run, answers}
use Rattle.model.specs.Book.{Book, book_of, acceptances}
use Rattle.model.specs.Promise.{Lets, MayAsk}
use Rattle.model.specs.Laws.{Overfills, KeepsRules, HasRoom, GrantAccepted, GrantsExact, ReportAccepted, ReportsExact, BlankPlace, Ruled}
use Rattle.model.proofs.Sums.{choice_most, wise, wise_le, wise_sum}
use Rattle.model.proofs.Checks.{checks_say, lowest_none, accepts_none, else_ok, ok_else, refuse_at_ok, refuse_unless_ok, known_ok, known_says, begin_is}
use Rattle.model.proofs.Steady.{Steady}
use Rattle.model.proofs.Reading.{in_all, control_room, rule_keeps, rule_breaks, grant_is, may_ask}
use Rattle.model.proofs.Running.{ready, by_book, room_says}

max_is : (a b : ℕ) → positive (pos b -ℤ pos a) + a ≡ max a b
max_is a b = grind (arith, ints)

reserved_is : (k : ℕ) (v a b : ℕ → ℕ) → sum k (λ u. v u * positive (pos (b u) -ℤ pos (a u))) + sum k (λ u. v u * a u) ≡ sum k (λ u. v u * max (a u) (b u))
reserved_is zero v a b = refl
reserved_is (suc k) v a b = omega (arith, reserved_is k v a b, ap (λ i. v k * i) (max_is (a k) (b k)))

module _ (n : Net) (free g : ℕ → ℕ) (q : ℕ → ℤ) (rs : List InForce) (s : Steady n free g q rs) where
  abbrev b : Book
  b = record { q = q; v = g; rules = rs }

  room_fine : (t i : ℕ) → i < n.ground_places → free i + max (n.take i t) (n.give i t) + reserved n g i ≤ n.limit i + n.take i t → Overfills n b t i → ⊥
  room_fine t i k h o = omega (
    arith,
    ints,
    s.marked i k,
    choice_most n.moves o.choice g (λ u. incidence n i u) o.within,
    reserved_is n.moves g (λ u. n.take i u) (λ u. n.give i u),
    h,
    o.over,
  )

  room_over : (t i : ℕ) → i < n.ground_places → n.limit i + n.take i t < free i + max (n.take i t) (n.give i t) + reserved n g i → Overfills n b t i
  room_over t i k h = record {
    choice = λ u. wise (incidence n i u) (g u);
    within = λ u. wise_le (incidence n i u) (g u);
    over = omega (
      arith,
      ints,
      s.marked i k,
      wise_sum n.moves g (λ u. incidence n i u),
      reserved_is n.moves g (λ u. n.take i u) (λ u. n.give i u),
      s.roomy i (in_all n free g q rs s i k),
      h,
    );
  }

  -- ---- what the ground places and the rules allow, the places allow
  module _ (t : ℕ) (lets : Lets n b t) (keeps : KeepsRules n b t) (fits : HasRoom n b t) where
    enough_go : (c : ℕ) → BlankPlace n free c ⊎ Ruled rs c → (z : Bool) → ltb (free c) (n.take c t) ≡ z → ltb (free c) (n.take c t) ≡ false
    enough_go c (inl d) z e = le-ltb (free c) (n.take c t) (omega (arith, d.no_take t))
    enough_go c (inr d) true e = absurd (keeps d.rule d.stands (rule_breaks n free g q rs s d.rule t (s.rules d.rule d.stands) (subst (λ (x : ℕ). free x < n.take x t) (sym d.there) (ltb-true (free c) (n.take c t) e))))
    enough_go c (inr d) false e = e

    enough : (i : ℕ) → ltb (free i) (n.take i t) ≡ false
    enough i = elim (cases_lt i n.ground_places) [
      | inl k ↦ le-ltb (free i) (n.take i t) (omega (arith, ints, s.marked i k, lets i k))
      | inr k ↦ enough_go i (s.control i k) (ltb (free i) (n.take i t)) refl
    ]

    roomed : (i : ℕ) → i < n.places → crowded n free g t i ≡ false
    roomed i k = elim (cases_lt i n.ground_places) [
      | inl m ↦ false_from_ne_true (crowded n free g t i) (λ e. fits i m (room_over t i m (ltb-true (n.limit i + n.take i t) (free i + max (n.take i t) (n.give i t) + reserved n g i) e)))
      | inr m ↦ le-ltb (n.limit i + n.take i t) (free i + max (n.take i t) (n.give i t) + reserved n g i) (control_room n free g q rs s t i m k)
    ]

    passes : (refuse_at (fault_at n Short t) (short_place n free t) else_by refuse_at (fault_at n NoRoom t) (crowded_place n free g t)) ≡ Ok tt
    passes = ok_else (refuse_at (fault_at n Short t) (short_place n free t)) (refuse_at (fault_at n NoRoom t) (crowded_place n free g t)) (accepts_none (λ i. ltb (free i) (n.take i t)) n.places (fault_at n Short t) (λ i k. enough i))
        ∙ accepts_none (crowded n free g t) n.places (fault_at n NoRoom t) roomed

  -- ---- and the other way
  module _ (t : ℕ) (e : (refuse_at (fault_at n Short t) (short_place n free t) else_by refuse_at (fault_at n NoRoom t) (crowded_place n free g t)) ≡ Ok tt) where
    asked : (refuse_at (fault_at n Short t) (short_place n free t) ≡ Ok tt) × (room_answer n free g t ≡ Ok tt)
    asked = else_ok (refuse_at (fault_at n Short t) (short_place n free t)) (refuse_at (fault_at n NoRoom t) (crowded_place n free g t)) e

    taking : (i : ℕ) → i < n.places → n.take i t ≤ free i
    taking i k = ltb-false (free i) (n.take i t) (lowest_none (λ i. ltb (free i) (n.take i t)) n.places (refuse_at_ok (fault_at n Short t) (short_place n free t) asked.0) i k)

    lets_it : Lets n b t
    lets_it i k = omega (arith, ints, s.marked i k, taking i (in_all n free g q rs s i k))

    keeps_them : KeepsRules n b t
    keeps_them r m h = rule_keeps n free g q rs s r t (s.rules r m) h (taking r.place (s.rules r m).high)

    has_room : HasRoom n b t
    has_room i k o = room_fine t i k (room_says n free g t asked.1 i (in_all n free g q rs s i k)) o

  -- ---- grants
  grant_when : (t : ℕ) → MayAsk n b t → Lets n b t → KeepsRules n b t → HasRoom n b t → grant_answer n free g t ≡ Ok tt
  grant_when t m lets keeps fits = grant_is n free g q rs s t (may_ask n free g q rs s t m) ∙ passes t lets keeps fits

  grant_only : (t : ℕ) → grant_answer n free g t ≡ Ok tt → MayAsk n b t × Lets n b t × KeepsRules n b t × HasRoom n b t
  grant_only t e =
      let e₁ = else_ok (grant_checks n g t) (begin_answer n free t else_by room_answer n free g t) e in
      let h = sym (grant_is n free g q rs s t e₁.0) ∙ e in (
        checks_say n g t e₁.0,
        lets_it t h,
        keeps_them t h,
        has_room t h,
      )

  -- ---- reports
  report_places : (t : ℕ) → t < n.moves → n.controllable t ≡ false → report_answer n free g t ≡ (refuse_at (fault_at n Short t) (short_place n free t) else_by refuse_at (fault_at n NoRoom t) (crowded_place n free g t))
  report_places t k c = ok_else (known n t) (refuse_unless (not (n.controllable t)) (fault_of Controllable t) else_by begin_answer n free t else_by room_answer n free g t) (known_ok n t k)
      ∙ ok_else (refuse_unless (not (n.controllable t)) (fault_of Controllable t)) (begin_answer n free t else_by room_answer n free g t) (ap (λ z. refuse_unless (not z) (fault_of Controllable t)) c)
      ∙ ap (λ a. a else_by room_answer n free g t) (begin_is n free t k)

  no_break : (t : ℕ) → n.controllable t ≡ false → KeepsRules n b t
  no_break t c r m h = rule_keeps n free g q rs s r t (s.rules r m) h (omega (arith, s.ranges.control_free r.place t (s.rules r m).low c))

  report_when : (t : ℕ) → t < n.moves → n.controllable t ≡ false → Lets n b t → HasRoom n b t → report_answer n free g t ≡ Ok tt
  report_when t k c lets fits = report_places t k c ∙ passes t lets (no_break t c) fits

  report_only : (t : ℕ) → report_answer n free g t ≡ Ok tt → (t < n.moves) × (n.controllable t ≡ false) × Lets n b t × HasRoom n b t
  report_only t e =
      let e₁ = else_ok (known n t) (refuse_unless (not (n.controllable t)) (fault_of Controllable t) else_by begin_answer n free t else_by room_answer n free g t) e in
      let e₂ = else_ok (refuse_unless (not (n.controllable t)) (fault_of Controllable t)) (begin_answer n free t else_by room_answer n free g t) e₁.1 in
      let k : t < n.moves = known_says n t e₁.0 in
      let c : n.controllable t ≡ false = not-true (n.controllable t) (refuse_unless_ok (not (n.controllable t)) (fault_of Controllable t) e₂.0) in
      let h = sym (report_places t k c) ∙ e in (k, c, lets_it t h, has_room t h)

-- ---- after every list
pub grants_exact : GrantsExact
grants_exact p rs built cs =
    let r = ready p rs built cs in
    let l = run (new_ledger p) cs in
    let b = book_of p rs cs (acceptances (answers (new_ledger p) cs)) in
    by_book GrantAccepted (pile_net p) p.below.places l b r
    (record { when = grant_when (net_under l) (free_under l) l.opened b.q b.rules r.steady; only = grant_only (net_under l) (free_under l) l.opened b.q b.rules r.steady })

pub reports_exact : ReportsExact
reports_exact p rs built cs =
    let r = ready p rs built cs in
    let l = run (new_ledger p) cs in
    let b = book_of p rs cs (acceptances (answers (new_ledger p) cs)) in
    by_book ReportAccepted (pile_net p) p.below.places l b r
    (record { when = report_when (net_under l) (free_under l) l.opened b.q b.rules r.steady; only = report_only (net_under l) (free_under l) l.opened b.q b.rules r.steady })
