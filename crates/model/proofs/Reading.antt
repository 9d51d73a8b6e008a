-- What is promised, read off the invariant.
use Rattle.std.proofs.Common.{◌≡◌, ℕ, ◌+◌, ◌*◌, ◌<◌, ◌≤◌, max, true, false, not, ltb, ◌⊎◌, List, ℤ, pos, ◌+ℤ◌, ◌*ℤ◌, nat_abs, ◌≤ℤ◌, ◌<ℤ◌, Some, Ok, Err, sym, refl, ap, ◌∙◌, subst, inl, inr, le_trans, mul-le-mul_right, mul-le-mul_left, arith, lit≤, ltb-false, ltb-true, lt-ltb}
use mathlib.Core.List.{Memᴰ}
use Rattle.std.proofs.lemmas.Bool.{cases_lt}
use native.Mathlib.Nat.{le-max_left, max-le}
use borrow.Author.Tests.{not-true}
use borrow.Author.Differences.{ints}
use Rattle.model.specs.declared.refusal.Refusal.TheVariants.{Uncontrollable, TooManyOpen, Short, NoRoom, NotOpen}
use Rattle.model.specs.Sizes.{most_limit, most_worked_bound, most_control_arc, most_open, control_limit}
use Rattle.model.specs.Net.{Net, signed_sum}
use Rattle.model.specs.Plant.{Answer, fault_of, fault_at, refuse_at, refuse_unless, ◌else_by◌, known, short_place, begin_answer, finish_answer, back_answer}
use Rattle.model.specs.Rule.{weighted, raise, positive}
use Rattle.model.specs.Layer.{InForce}
use Rattle.model.specs.Ledger.{Ledger, open_count, taken, reserved, crowded, crowded_place, room_answer, grant_checks, grant_answer, is_open, commit_answer, cancel_answer, report_answer, net_under, free_under}
use Rattle.model.specs.Book.{Book}
use Rattle.model.specs.Promise.{RefusedAt, MayAsk, Lets, Breaks, LowestBroken, Upheld}
use Rattle.model.specs.Laws.{Derived, BlankPlace, Ruled}
use Rattle.model.proofs.Sums.{sum_le, sum_below, le_sum, choice_most, wise, wise_le, wise_sum, scaled, unscale}
use Rattle.model.proofs.Checks.{checks_say, lowest_some, lowest_passes, ok_else, passes_if, known_ok, begin_is, finish_ok, back_ok, names_cases, names_report}
use Rattle.model.proofs.Setting.{most_weighted, weighted_abs}
use Rattle.model.proofs.Steady.{held_open, Stands, stands_derived, Steady}

-- ---- arithmetic
break_sum : (x b y r : ℤ) (f h : ℕ) → (x +ℤ pos f) +ℤ pos h ≡ b → y ≡ pos h → f < positive r → b <ℤ ((x +ℤ y) +ℤ r)
break_sum x b y r f h e k l = grind (arith, ints)

keep_sum : (x b y r : ℤ) (f h : ℕ) → (x +ℤ pos f) +ℤ pos h ≡ b → y ≤ℤ pos h → positive r ≤ f → b <ℤ ((x +ℤ y) +ℤ r) → ⊥
keep_sum x b y r f h e k l m = grind (arith, ints)

-- the most tokens of a row that adds up to its bound
abbrev pub most_row : ℕ
most_row = most_worked_bound + most_weighted

module _ (n : Net) (free g : ℕ → ℕ) (q : ℕ → ℤ) (rs : List InForce) (s : Steady n free g q rs) where
  -- ---- sizes
  pub in_all : (p : ℕ) → p < n.ground_places → p < n.places
  in_all p l = le_trans l s.ranges.places_all

  mark_small : (p : ℕ) → p < n.ground_places → free p + taken n g p ≤ most_limit
  mark_small p l = omega (arith, sum_le n.moves (λ u. g u * n.take p u) (λ u. g u * max (n.take p u) (n.give p u)) (λ u k. mul-le-mul_left (g u) (le-max_left (n.take p u) (n.give p u))), s.roomy p (in_all p l), s.ranges.ground_limit p l)

  book_small : (p : ℕ) → p < n.ground_places → nat_abs (q p) ≤ most_limit
  book_small p l = subst (λ (x : ℤ). nat_abs x ≤ most_limit) (sym (s.marked p l)) (mark_small p l)

  stands_small : (r : InForce) → Stands n free g q r → free r.place ≤ most_row
  stands_small r k = omega (arith, ints, k.adds_up, (stands_derived n free g q r k).bound_in, weighted_abs n r.worked.weight q s.ranges (stands_derived n free g q r k).weights_in book_small)

  control_small : (c : ℕ) → BlankPlace n free c ⊎ Ruled rs c → free c ≤ most_row
  control_small c (inl b) = omega (arith, b.no_free)
  control_small c (inr r) = subst (λ (x : ℕ). free x ≤ most_row) r.there (stands_small r.rule (s.rules r.rule r.stands))

  max_small : (c u : ℕ) → n.ground_places ≤ c → max (n.take c u) (n.give c u) ≤ most_control_arc
  max_small c u l = max-le (s.ranges.control_arcs c u l).0 (s.ranges.control_arcs c u l).1

  held_small : (c : ℕ) → n.ground_places ≤ c → reserved n g c ≤ most_open * most_control_arc
  held_small c l = le_trans (sum_below n.moves most_control_arc g (λ u. max (n.take c u) (n.give c u)) (λ u k. max_small c u l)) (mul-le-mul_right most_control_arc s.few)

  -- a control place always has room: its limit is beyond what a row, a move and all open grants can bring together
  pub control_room : (t c : ℕ) → n.ground_places ≤ c → c < n.places → free c + max (n.take c t) (n.give c t) + reserved n g c ≤ n.limit c + n.take c t
  control_room t c l k = omega (arith, enough, control_small c (s.control c l), max_small c t l, held_small c l, s.ranges.control_limited c l k)
    where
      enough : most_row + most_control_arc + most_open * most_control_arc ≤ control_limit
      enough = lit≤ tt

  pub no_room_fault : (t c : ℕ) → n.ground_places ≤ c → crowded_place n free g t ≡ Some c → ⊥
  no_room_fault t c l e =
      let h = lowest_some (crowded n free g t) n.places c e in
      omega (arith, ltb-true (n.limit c + n.take c t) (free c + max (n.take c t) (n.give c t) + reserved n g c) h.0, control_room t c l h.1)

  -- ---- an open grant
  open_known : (t : ℕ) → 0 < g t → t < n.moves
  open_known t o = elim (cases_lt t n.moves) [ inl l ↦ l | inr l ↦ absurd (omega (arith, s.beyond t l)) ]

  open_room : (t : ℕ) → 0 < g t → (p : ℕ) → p < n.places → free p + max (n.take p t) (n.give p t) ≤ n.limit p
  open_room t o p l = omega (arith, le_sum n.moves (λ u. g u * max (n.take p u) (n.give p u)) t (open_known t o), s.roomy p l, mul-le-mul_right (max (n.take p t) (n.give p t)) o)

  -- ---- a rule and a move
  pub rule_breaks : (r : InForce) (t : ℕ) → Stands n free g q r → free r.place < n.take r.place t → Breaks n (record { q = q; v = g; rules = rs }) t r
  rule_breaks r t k l = record {
    choice = λ u. wise (raise n r.worked.weight u) (g u);
    within = λ u. wise_le (raise n r.worked.weight u) (g u);
    over_bound = break_sum (weighted n r.worked.weight q) r.worked.bound (signed_sum n.moves (λ u. pos (wise (raise n r.worked.weight u) (g u)) *ℤ raise n r.worked.weight u)) (raise n r.worked.weight t) (free r.place) (held_open n g r.worked.weight)
        k.adds_up (wise_sum n.moves g (raise n r.worked.weight)) (subst (λ (x : ℕ). free r.place < x) (k.takes t) l);
  }

  pub rule_keeps : (r : InForce) (t : ℕ) → Stands n free g q r → Breaks n (record { q = q; v = g; rules = rs }) t r → n.take r.place t ≤ free r.place → ⊥
  rule_keeps r t k b l = keep_sum (weighted n r.worked.weight q) r.worked.bound (signed_sum n.moves (λ u. pos (b.choice u) *ℤ raise n r.worked.weight u)) (raise n r.worked.weight t) (free r.place) (held_open n g r.worked.weight)
      k.adds_up (choice_most n.moves b.choice g (raise n r.worked.weight) b.within) (subst (λ (x : ℕ). x ≤ free r.place) (k.takes t) l) b.over_bound

  -- ---- the lowest place that is short of tokens for t is a control place
  module _ (t c : ℕ) (low : n.ground_places ≤ c) (e : short_place n free t ≡ Some c) where
    short_at : free c < n.take c t
    short_at = ltb-true (free c) (n.take c t) (lowest_some (λ p. ltb (free p) (n.take p t)) n.places c e).0

    short_lower : (p : ℕ) → p < c → n.take p t ≤ free p
    short_lower p l = ltb-false (free p) (n.take p t) ((lowest_some (λ p. ltb (free p) (n.take p t)) n.places c e).2 p l)

    short_lets : Lets n (record { q = q; v = g; rules = rs }) t
    short_lets p l = omega (arith, ints, s.marked p l, short_lower p (le_trans l low))

    none_lower : (r : InForce) → Memᴰ r rs → Breaks n (record { q = q; v = g; rules = rs }) t r → c ≤ r.place
    none_lower r m b = elim (cases_lt r.place c) [ inl l ↦ absurd (rule_keeps r t (s.rules r m) b (short_lower r.place l)) | inr l ↦ l ]

    short_lowest : BlankPlace n free c ⊎ Ruled rs c → LowestBroken n (record { q = q; v = g; rules = rs }) t c
    short_lowest (inl b) = absurd (omega (arith, short_at, b.no_take t))
    short_lowest (inr r) = record {
      rule = r.rule;
      stands = r.stands;
      there = r.there;
      breaks = rule_breaks r.rule t (s.rules r.rule r.stands) (subst (λ (x : ℕ). free x < n.take x t) (sym r.there) short_at);
      none_lower = none_lower;
    }

  -- a place that some rule's break shows to be short
  pub breaks_short : (t : ℕ) (r : InForce) → Stands n free g q r → Breaks n (record { q = q; v = g; rules = rs }) t r → ltb (free r.place) (n.take r.place t) ≡ true
  breaks_short t r k b = elim (cases_lt (free r.place) (n.take r.place t)) [ inl l ↦ lt-ltb (free r.place) (n.take r.place t) l | inr l ↦ absurd (rule_keeps r t k b l) ]

  pub lets_low : (t c : ℕ) → Lets n (record { q = q; v = g; rules = rs }) t → ltb (free c) (n.take c t) ≡ true → n.ground_places ≤ c
  lets_low t c h e = elim (cases_lt c n.ground_places) [
    | inl k ↦ absurd (omega (arith, ints, s.marked c k, h c k, ltb-true (free c) (n.take c t) e))
    | inr k ↦ k
  ]

  -- ---- sums
  pub typed_holds : (r : InForce) → Stands n free g q r → weighted n r.typed.weight q ≤ℤ r.typed.bound
  typed_holds r k = let d : Derived n.ground_places r.typed r.worked = stands_derived n free g q r k in
      unscale d.factor (weighted n r.typed.weight q) r.typed.bound d.factor_some
      (omega (arith, ints, d.blend_bound, scaled n.ground_places d.factor r.worked.weight d.rest r.typed.weight q (λ i. free i + taken n g i) d.rest_low d.blend s.marked, k.adds_up))

  -- ---- grants
  abbrev b : Book
  b = record { q = q; v = g; rules = rs }

  pub grant_is : (t : ℕ) → grant_checks n g t ≡ Ok tt → grant_answer n free g t ≡ (refuse_at (fault_at n Short t) (short_place n free t) else_by refuse_at (fault_at n NoRoom t) (crowded_place n free g t))
  grant_is t e = ok_else (grant_checks n g t) (begin_answer n free t else_by room_answer n free g t) e
      ∙ ap (λ a. a else_by room_answer n free g t) (begin_is n free t (checks_say n g t e).0)

  pub may_ask : (t : ℕ) → MayAsk n b t → grant_checks n g t ≡ Ok tt
  may_ask t m = ok_else (known n t) (refuse_unless (n.controllable t) (fault_of Uncontrollable t) else_by refuse_unless (ltb (open_count n g) most_open) (fault_of TooManyOpen t)) (known_ok n t m.0)
      ∙ ok_else (refuse_unless (n.controllable t) (fault_of Uncontrollable t)) (refuse_unless (ltb (open_count n g) most_open) (fault_of TooManyOpen t)) (passes_if (n.controllable t) (fault_of Uncontrollable t) m.1)
      ∙ passes_if (ltb (open_count n g) most_open) (fault_of TooManyOpen t) (lt-ltb (open_count n g) most_open m.2)

  -- the whole fault of a place that is short
  short_fault : (t c : ℕ) → grant_checks n g t ≡ Ok tt → short_place n free t ≡ Some c → grant_answer n free g t ≡ Err (fault_at n Short t c)
  short_fault t c e k = grant_is t e ∙ ap (λ o. refuse_at (fault_at n Short t) o else_by refuse_at (fault_at n NoRoom t) (crowded_place n free g t)) k

  only : (t c : ℕ) → grant_checks n g t ≡ Ok tt → n.ground_places ≤ c → RefusedAt (grant_answer n free g t) c → Lets n b t × LowestBroken n b t c × (grant_answer n free g t ≡ Err (fault_at n Short t c))
  only t c e low h = go (names_cases n t (short_place n free t) (crowded_place n free g t) c (subst (λ (a : Answer). RefusedAt a c) (grant_is t e) h))
    where
      go : (short_place n free t ≡ Some c) ⊎ (crowded_place n free g t ≡ Some c) → Lets n b t × LowestBroken n b t c × (grant_answer n free g t ≡ Err (fault_at n Short t c))
      go (inl k) = (short_lets t c low k, short_lowest t c low k (s.control c low), short_fault t c e k)
      go (inr k) = absurd (no_room_fault t c low k)

  always : (t : ℕ) (r : InForce) → grant_checks n g t ≡ Ok tt → Lets n b t → Memᴰ r rs → Breaks n b t r → (c : ℕ) × ((n.ground_places ≤ c) × (grant_answer n free g t ≡ Err (fault_at n Short t c)))
  always t r e lets m h = go (lowest_passes (λ i. ltb (free i) (n.take i t)) n.places r.place (s.rules r m).high (breaks_short t r (s.rules r m) h))
    where
      go : (c : ℕ) × (short_place n free t ≡ Some c) → (c : ℕ) × ((n.ground_places ≤ c) × (grant_answer n free g t ≡ Err (fault_at n Short t c)))
      go x = (x.0, (lets_low t x.0 lets (lowest_some (λ i. ltb (free i) (n.take i t)) n.places x.0 x.1).0, short_fault t x.0 e x.1))

  -- ---- reports, commits and cancels
  reported : (t c : ℕ) → n.ground_places ≤ c → RefusedAt (report_answer n free g t) c → ⊥
  reported t c low h = go (names_report t (ltb t n.moves) (not (n.controllable t)) (begin_answer n free t else_by room_answer n free g t) c h)
    where
      fault : n.controllable t ≡ false → (short_place n free t ≡ Some c) ⊎ (crowded_place n free g t ≡ Some c) → ⊥
      fault u (inl k) = omega (arith, s.ranges.control_free c t low u, ltb-true (free c) (n.take c t) (lowest_some (λ i. ltb (free i) (n.take i t)) n.places c k).0)
      fault u (inr k) = no_room_fault t c low k

      go : (ltb t n.moves ≡ true) × (not (n.controllable t) ≡ true) × RefusedAt (begin_answer n free t else_by room_answer n free g t) c → ⊥
      go x = fault (not-true (n.controllable t) x.1) (names_cases n t (short_place n free t) (crowded_place n free g t) c
          (subst (λ (a : Answer). RefusedAt (a else_by room_answer n free g t) c) (begin_is n free t (ltb-true t n.moves x.0)) x.2))

  opens : (t : ℕ) → 0 < g t → (x : Answer) → x ≡ Ok tt → (known n t else_by is_open g t else_by x) ≡ Ok tt
  opens t o x e = ok_else (known n t) (is_open g t else_by x) (known_ok n t (open_known t o))
      ∙ ok_else (is_open g t) x (passes_if (ltb 0 (g t)) (fault_of NotOpen t) (lt-ltb 0 (g t) o)) ∙ e

  committed : (t : ℕ) → 0 < g t → commit_answer n free g t ≡ Ok tt
  committed t o = opens t o (finish_answer n free t) (finish_ok n free t (open_known t o) (λ i k. omega (arith, open_room t o i k)))

  cancelled : (t : ℕ) → 0 < g t → cancel_answer n free g t ≡ Ok tt
  cancelled t o = opens t o (back_answer n free t) (back_ok n free t (open_known t o) (λ i k. omega (arith, open_room t o i k)))

pub upheld : (l : Ledger) (q : ℕ → ℤ) (rs : List InForce) → Steady (net_under l) (free_under l) l.opened q rs → Upheld l (record { q = q; v = l.opened; rules = rs })
upheld l q rs s = record {
  agrees = record { marked = s.marked; counted = λ t. refl };
  sums = record { adds_up = λ r m. (s.rules r m).adds_up; as_typed = λ r m. typed_holds (net_under l) (free_under l) l.opened q rs s r (s.rules r m) };
  grants = record {
    only = λ t c m low h. only (net_under l) (free_under l) l.opened q rs s t c (may_ask (net_under l) (free_under l) l.opened q rs s t m) low h;
    always = λ t r m. always (net_under l) (free_under l) l.opened q rs s t r (may_ask (net_under l) (free_under l) l.opened q rs s t m);
  };
  passes = record {
    reported = reported (net_under l) (free_under l) l.opened q rs s;
    committed = committed (net_under l) (free_under l) l.opened q rs s;
    cancelled = cancelled (net_under l) (free_under l) l.opened q rs s;
  };
}
