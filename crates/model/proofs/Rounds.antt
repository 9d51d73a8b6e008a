-- What the answers of working mean: every one is a chain of rounds.
use Rattle.std.proofs.Common.{◌≡◌, ℕ, zero, suc, ◌-◌, ◌*◌, ◌/◌, ◌%◌, ◌<◌, ◌≤◌, Bool, true, false, cond, not, ◌&&◌, ◌||◌, eqb, ltb, leb, ℤ, pos, ◌+ℤ◌, ◌-ℤ◌, ◌*ℤ◌, neg_ℤ, nat_abs, Some, None, Ok, Err, Option, Result, refl, ap, ◌∙◌, subst, ap₂, inl, inr, zero-le, mul_comm, arith, ltb-false, ltb-true, lt-ltb, eq-eqb, ne_eqb, eqb-true, le-leb}
use Prim.Native.Nat.{◌∣◌}
use native.Mathlib.Nat.{le_of_dvd, mod-eq-zero_of_dvd, dvd_of_mod-eq-zero, mul-div_cancel'}
use Rattle.std.proofs.Math.IntN.{+ℤ_idr}
use Rattle.std.proofs.lemmas.Bool.{and_parts, cases_eq}
use lib.Signed.{lt_z}
use borrow.Author.Tests.{eqb-false, not-true, both_ways}
use borrow.Author.Differences.{ints, product_is, neg_is}
use Rattle.model.specs.declared.refusal.Refusal.TheVariants.{NotTyped, TooLarge}
use Rattle.model.specs.declared.fault.Fault.{Fault}
use Rattle.model.specs.Sizes.{most_all_places, most_weight, most_bound, most_worked_weight, most_worked_bound, most_rounds}
use Rattle.model.specs.Net.{Net, signed_sum, incidence}
use Rattle.model.specs.Plant.{lowest, setting_fault}
use Rattle.model.specs.Rule.{Rule, Worked, raise, positive, in_range}
use Rattle.model.specs.Working.{divisor, rising, falls, changed, fits, at_place, at_move, at_end, rounds_from, ground_only, is_typed, unchanged}
use Rattle.model.specs.Rounds.{CanBeTyped, Small, Gcd, LowestRising, Round, none, more, Quiet, WorkedOut, RoundsSay, WorkSays}
use Rattle.model.specs.Laws.{WorkingSays, IsRound, DivisorGcd}
use Rattle.model.proofs.Sums.{distrib, distrib_right, assoc}
use Rattle.model.proofs.Checks.{lowest_some, lowest_none}
use Rattle.model.proofs.Working.{all_below_decides, all_below_says, range_weights, range_bound, not_rising}

-- ---- the greatest common divisor
record Scan (k a e h : ℕ) : Type 0 where
  some : 1 ≤ h
  of_a : h * (a / h) ≡ a
  of_e : h * (e / h) ≡ e
  most : (d : ℕ) → d ∣ a → d ∣ e → d ≤ k → d ≤ h

scan : (k a e : ℕ) → Scan k a e (divisor k a e)
scan zero a e = record { some = omega arith; of_a = omega arith; of_e = omega arith; most = λ d x y l. omega arith }
scan (suc k) a e = go (eqb (a % suc k) 0) (eqb (e % suc k) 0) refl refl (scan k a e)
  where
    go : (x y : Bool) → eqb (a % suc k) 0 ≡ x → eqb (e % suc k) 0 ≡ y → Scan k a e (divisor k a e) → Scan (suc k) a e (cond (x && y) (suc k) (divisor k a e))
    go true true p q s = record {
      some = omega arith;
      of_a = mul-div_cancel' (suc k) (dvd_of_mod-eq-zero (suc k) (eqb-true (a % suc k) 0 p));
      of_e = mul-div_cancel' (suc k) (dvd_of_mod-eq-zero (suc k) (eqb-true (e % suc k) 0 q));
      most = λ d x y l. l;
    }
    go true false p q s = record { some = s.some; of_a = s.of_a; of_e = s.of_e; most = λ d x y l. elim (cases_eq d (suc k)) [ inl z ↦ absurd (eqb-false (e % suc k) 0 q (subst (λ (i : ℕ). e % i ≡ 0) z (mod-eq-zero_of_dvd d y))) | inr z ↦ s.most d x y (omega arith) ] }
    go false y p q s = record { some = s.some; of_a = s.of_a; of_e = s.of_e; most = λ d x z l. elim (cases_eq d (suc k)) [ inl w ↦ absurd (eqb-false (a % suc k) 0 p (subst (λ (i : ℕ). a % i ≡ 0) w (mod-eq-zero_of_dvd d x))) | inr w ↦ s.most d x z (omega arith) ] }

pub dvd_small : (d e : ℕ) → 1 ≤ e → d ∣ e → d ≤ e
dvd_small d e l h = le_of_dvd l h

pub divisor_gcd : DivisorGcd
divisor_gcd a e l = record { some = (scan e a e).some; of_a = (scan e a e).of_a; of_e = (scan e a e).of_e; most = λ d x y. (scan e a e).most d x y (dvd_small d e l y) }

-- one place's part of the sum
abbrev pub part : ℕ → ℕ → ℕ → (ℕ → ℤ) → ℤ
part g b p d = cond (ltb p g) (pos b *ℤ d p) (pos 0)

part_step : (g b p : ℕ) (d : ℕ → ℤ) → part (suc g) b p d ≡ part g b p d +ℤ cond (eqb g p) (pos b) (pos 0) *ℤ d g
part_step g b p d = grind (arith, ints, cases_eq g p)

pub absorb_sum : (g k b p : ℕ) (w d : ℕ → ℤ) → signed_sum g (λ i. (pos k *ℤ w i +ℤ cond (eqb i p) (pos b) (pos 0)) *ℤ d i) ≡ pos k *ℤ signed_sum g (λ i. w i *ℤ d i) +ℤ part g b p d
absorb_sum zero k b p w d = grind (arith, ints)
absorb_sum (suc g) k b p w d = omega (
  arith,
  ints,
  absorb_sum g k b p w d,
  distrib_right (pos k *ℤ w g) (cond (eqb g p) (pos b) (pos 0)) (d g),
  assoc k (w g) (d g),
  distrib (pos k) (signed_sum g (λ i. w i *ℤ d i)) (w g *ℤ d g),
  part_step g b p d,
)

level_nat : (h a e x y : ℕ) → h * x ≡ a → h * y ≡ e → y * a ≡ x * e
level_nat h a e x y p q = omega (arith, ap (λ z. y * z) p, ap (λ z. x * z) q, mul_comm x y)

level : (x y a e : ℕ) (d : ℤ) → y * a ≡ x * e → d ≡ neg_ℤ (pos e) → pos y *ℤ pos a +ℤ pos x *ℤ d ≡ pos 0
level x y a e d p q = omega (arith, ints, ap (λ z. pos x *ℤ z) q, product_is (pos x) (neg_ℤ (pos e)), ap (λ z. x * z) (neg_is (pos e)).0, ap (λ z. x * z) (neg_is (pos e)).1)

-- ---- the model's round is such a round
pos_is : (z : ℤ) → lt_z (pos 0) z ≡ true → z ≡ pos (positive z)
pos_is z e = grind (arith, ints)

pos_some : (z : ℤ) → lt_z (pos 0) z ≡ true → 1 ≤ positive z
pos_some z e = grind (arith, ints)

is_rising : (n : Net) (r : Worked) (t : ℕ) → lowest (rising n r) 0 n.moves ≡ Some t → LowestRising n r t (positive (raise n r.weight t))
is_rising n r t e =
    let m = lowest_some (rising n r) n.moves t e in
    let k = and_parts (not (n.controllable t)) (lt_z (pos 0) (raise n r.weight t)) m.0 in
    record {
      known = m.1;
      uncontrollable = not-true (n.controllable t) k.0;
      raises = pos_is (raise n r.weight t) k.1;
      some = pos_some (raise n r.weight t) k.1;
      lowest_one = λ u l c. not_rising (n.controllable u) (raise n r.weight u) c (m.2 u l);
    }

module _ (n : Net) (r : Worked) (t p : ℕ)
    (mv : lowest (rising n r) 0 n.moves ≡ Some t) (pl : lowest (falls n t) 0 n.ground_places ≡ Some p) where
  m : (rising n r t ≡ true) × (t < n.moves) × ((j : ℕ) → j < t → rising n r j ≡ false)
  m = lowest_some (rising n r) n.moves t mv

  q : (ltb (n.give p t) (n.take p t) ≡ true) × (p < n.ground_places) × ((j : ℕ) → j < p → ltb (n.give j t) (n.take j t) ≡ false)
  q = lowest_some (falls n t) n.ground_places p pl

  k : (not (n.controllable t) ≡ true) × (lt_z (pos 0) (raise n r.weight t) ≡ true)
  k = and_parts (not (n.controllable t)) (lt_z (pos 0) (raise n r.weight t)) m.0

  abbrev ra : ℕ
  ra = positive (raise n r.weight t)

  abbrev re : ℕ
  re = n.take p t - n.give p t

  abbrev rh : ℕ
  rh = divisor re ra re

  re_some : 1 ≤ re
  re_some = omega (arith, ltb-true (n.give p t) (n.take p t) q.0)

  g : Gcd ra re rh
  g = divisor_gcd ra re re_some

  down_by : (a b : ℕ) → ltb b a ≡ true → pos b -ℤ pos a ≡ neg_ℤ (pos (a - b))
  down_by a b e = let l : b < a = ltb-true b a e in omega (arith, ints)

  level_here : raise n (changed n r t p).weight t ≡ pos 0
  level_here = absorb_sum n.ground_places (re / rh) (ra / rh) p r.weight (λ i. incidence n i t)
      ∙ ap₂ (λ x y. pos (re / rh) *ℤ x +ℤ cond y (pos (ra / rh) *ℤ incidence n p t) (pos 0)) (pos_is (raise n r.weight t) k.1) (lt-ltb p n.ground_places q.1)
      ∙ level (ra / rh) (re / rh) ra re (incidence n p t) (level_nat rh ra re (ra / rh) (re / rh) g.of_a g.of_e) (down_by (n.take p t) (n.give p t) q.0)

  is_round_here : Round n r (changed n r t p)
  is_round_here = record {
    move = t;
    place = p;
    a = ra;
    e = re;
    h = rh;
    rising = is_rising n r t mv;
    place_in = q.1;
    takes = omega (arith, ltb-true (n.give p t) (n.take p t) q.0);
    e_some = re_some;
    place_lowest = λ i l. ltb-false (n.give i t) (n.take i t) (q.2 i l);
    gcd = g;
    at_place = ap (λ b. pos (re / rh) *ℤ r.weight p +ℤ cond b (pos (ra / rh)) (pos 0)) (eq-eqb p p refl);
    elsewhere = λ i d. ap (λ b. pos (re / rh) *ℤ r.weight i +ℤ cond b (pos (ra / rh)) (pos 0)) (ne_eqb i p d) ∙ +ℤ_idr (pos (re / rh) *ℤ r.weight i);
    bound = refl;
    counted = refl;
    levelled = level_here;
  }

pub is_round : IsRound
is_round n w t p = is_round_here n w t p

-- ---- what the answer of working says, when so many rounds may change the rule
small_says : (n : Net) (w : Worked) → fits n w ≡ true → Small n w
small_says n w e = record { weights = range_weights most_worked_weight most_worked_bound n w.weight w.bound e; bound_in = range_bound most_worked_weight most_worked_bound n w.weight w.bound e }

range_if : (most_w most_b : ℕ) (n : Net) (l : ℕ → ℤ) (b : ℤ) → ((p : ℕ) → p < n.ground_places → nat_abs (l p) ≤ most_w) → nat_abs b ≤ most_b → in_range most_w most_b n l b ≡ true
range_if most_w most_b n l b h k = ap₂ (λ x y. x && y) ((all_below_decides (λ p. leb (nat_abs (l p)) most_w) n.ground_places).1 (λ p m. le-leb (nat_abs (l p)) most_w (h p m))) (le-leb (nat_abs b) most_b k)

small_not : (n : Net) (w : Worked) → fits n w ≡ false → Small n w → ⊥
small_not n w e h = both_ways (fits n w) e (range_if most_worked_weight most_worked_bound n w.weight w.bound h.weights h.bound_in)

is_quiet : (n : Net) (r : Worked) → lowest (rising n r) 0 n.moves ≡ None → Quiet n r
is_quiet n r e t l c = not_rising (n.controllable t) (raise n r.weight t) c (lowest_none (rising n r) n.moves e t l)

later : (n : Net) (k : ℕ) (r s : Worked) → Round n r s → Small n s → (x : Result Worked Fault) → RoundsSay n k s x → RoundsSay n (suc k) r x
later n k r s d ok (Ok w) h = record { count = suc h.count; few = omega (arith, h.few); counted = omega (arith, h.counted, d.counted); chain = more d ok h.chain; quiet = h.quiet }
later n k r s d ok (Err f) (inl h) = inl (h.0, record { last = h.1.last; chain = more d ok h.1.chain; move = h.1.move; raised = h.1.raised; rising = h.1.rising })
later n k r s d ok (Err f) (inr (inl h)) = inr (inl (h.0, record { count = suc h.1.count; few = omega (arith, h.1.few); last = h.1.last; chain = more d ok h.1.chain; move = h.1.move; raised = h.1.raised; rising = h.1.rising; no_place = h.1.no_place }))
later n k r s d ok (Err f) (inr (inr h)) = inr (inr (h.0, record { count = suc h.1.count; few = omega (arith, h.1.few); last = h.1.last; chain = more d ok h.1.chain; big = h.1.big; round = h.1.round; not_small = h.1.not_small }))

ends_here : (n : Net) (k : ℕ) (r : Worked) → lowest (rising n r) 0 n.moves ≡ None → WorkedOut n k r r
ends_here n k r e = record { count = 0; few = zero-le; counted = omega arith; chain = none n r; quiet = is_quiet n r e }

end_says : (n : Net) (r : Worked) (o : Option ℕ) → lowest (rising n r) 0 n.moves ≡ o → RoundsSay n 0 r (at_end r o)
end_says n r None e = ends_here n 0 r e
end_says n r (Some t) e = inl (refl, record { last = r; chain = none n r; move = t; raised = positive (raise n r.weight t); rising = is_rising n r t e })

module _ (n : Net) (r : Worked) (k : ℕ) (on : Worked → Result Worked Fault) (rec : (s : Worked) → RoundsSay n k s (on s)) where
  size_says : (t p : ℕ) → lowest (rising n r) 0 n.moves ≡ Some t → lowest (falls n t) 0 n.ground_places ≡ Some p → (b : Bool) → fits n (changed n r t p) ≡ b → RoundsSay n (suc k) r (cond b (on (changed n r t p)) (Err (setting_fault TooLarge)))
  size_says t p e q true z = later n k r (changed n r t p) (is_round n r t p e q) (small_says n (changed n r t p) z) (on (changed n r t p)) (rec (changed n r t p))
  size_says t p e q false z = inr (inr (refl, record { count = 0; few = omega arith; last = r; chain = none n r; big = changed n r t p; round = is_round n r t p e q; not_small = small_not n (changed n r t p) z }))

  place_says : (t : ℕ) → lowest (rising n r) 0 n.moves ≡ Some t → (o : Option ℕ) → lowest (falls n t) 0 n.ground_places ≡ o → RoundsSay n (suc k) r (at_place on n r t o)
  place_says t e (Some p) q = size_says t p e q (fits n (changed n r t p)) refl
  place_says t e None q = inr (inl (refl, record { count = 0; few = omega arith; last = r; chain = none n r; move = t; raised = positive (raise n r.weight t); rising = is_rising n r t e; no_place = λ p l. ltb-false (n.give p t) (n.take p t) (lowest_none (falls n t) n.ground_places q p l) }))

  move_says : (o : Option ℕ) → lowest (rising n r) 0 n.moves ≡ o → RoundsSay n (suc k) r (at_move on n r o)
  move_says None e = ends_here n (suc k) r e
  move_says (Some t) e = place_says t e (lowest (falls n t) 0 n.ground_places) refl

pub rounds_say : (k : ℕ) (n : Net) (r : Worked) → RoundsSay n k r (rounds_from k n r)
unfolding rounds_from
rounds_say zero n r = end_says n r (lowest (rising n r) 0 n.moves) refl
rounds_say (suc k) n r = move_says n r k (rounds_from k n) (λ s. rounds_say k n s) (lowest (rising n r) 0 n.moves) refl

-- ---- the rules that can be typed
typed_says : (n : Net) (r : Rule) → is_typed n r ≡ true → CanBeTyped n r
typed_says n r e =
    let c = and_parts (in_range most_weight most_bound n r.weight r.bound) (ground_only n r) e in
    record {
      weights = range_weights most_weight most_bound n r.weight r.bound c.0;
      elsewhere = λ p l k. off p l (ltb p n.ground_places) refl (all_below_says (λ i. ltb i n.ground_places || eqb (nat_abs (r.weight i)) 0) most_all_places c.1 p k);
      bound_in = range_bound most_weight most_bound n r.weight r.bound c.0;
    }
  where
    off : (p : ℕ) → n.ground_places ≤ p → (b : Bool) → ltb p n.ground_places ≡ b → b || eqb (nat_abs (r.weight p)) 0 ≡ true → r.weight p ≡ pos 0
    off p l true d k = absurd (omega (arith, ltb-true p n.ground_places d))
    off p l false d k = omega (arith, ints, eqb-true (nat_abs (r.weight p)) 0 k)

typed_if : (n : Net) (r : Rule) → CanBeTyped n r → is_typed n r ≡ true
typed_if n r h = ap₂ (λ x y. x && y) (range_if most_weight most_bound n r.weight r.bound h.weights h.bound_in)
    ((all_below_decides (λ p. ltb p n.ground_places || eqb (nat_abs (r.weight p)) 0) most_all_places).1 (λ p l. on p l (ltb p n.ground_places) refl))
  where
    on : (p : ℕ) → p < most_all_places → (b : Bool) → ltb p n.ground_places ≡ b → b || eqb (nat_abs (r.weight p)) 0 ≡ true
    on p l true d = refl
    on p l false d = eq-eqb (nat_abs (r.weight p)) 0 (ap nat_abs (h.elsewhere p (ltb-false p n.ground_places d) l))

pub working_says : WorkingSays
working_says n typed = go (is_typed n typed) refl
  where
    go : (b : Bool) → is_typed n typed ≡ b → WorkSays n typed (cond b (rounds_from most_rounds n (unchanged typed)) (Err (setting_fault NotTyped)))
    go true e = inl (typed_says n typed e, rounds_say most_rounds n (unchanged typed))
    go false e = inr (λ h. both_ways (is_typed n typed) e (typed_if n typed h), refl)
