-- What working gives: a rule derived from the typed one, which no uncontrollable move raises, by the ground part of the net alone.
use Rattle.std.proofs.Common.{Decides, ◌≡◌, ℕ, zero, suc, ◌+◌, ◌-◌, ◌*◌, ◌/◌, ◌<◌, ◌≤◌, max, Bool, true, false, cond, not, ◌&&◌, ◌||◌, eqb, ltb, leb, ℤ, pos, negsuc, ◌+ℤ◌, ◌-ℤ◌, ◌*ℤ◌, nat_abs, ◌≤ℤ◌, Some, None, Ok, Err, Option, Result, sym, refl, ap, ◌∙◌, subst, ap₂, mul-le-mul, arith, ltb-true, ne_eqb, leb-true}
use Rattle.std.proofs.Math.Bool.{and_comm}
use Rattle.std.proofs.lemmas.Bool.{and_parts}
use Rattle.std.proofs.lemmas.Bool.Decides.{Decides-below_and}
use Rattle.std.proofs.lemmas.Nat.{le-div}
use lib.Signed.{lt_z}
use borrow.Author.Differences.{ints}
use Rattle.model.specs.declared.refusal.Refusal.TheVariants.{NotTyped, TooLarge}
use Rattle.model.specs.declared.fault.Fault.{Fault}
use Rattle.model.specs.Sizes.{most_all_places, most_weight, most_bound, most_worked_weight, most_worked_bound, most_rounds}
use Rattle.model.specs.Net.{Net, signed_sum, incidence}
use Rattle.model.specs.Plant.{lowest, setting_fault}
use Rattle.model.specs.Rule.{Rule, Worked, raise, positive, all_below, in_range}
use Rattle.model.specs.Working.{divisor, rising, falls, absorbed, changed, fits, at_place, at_move, at_end, rounds_from, ground_only, is_typed, unchanged, work}
use Rattle.model.specs.Laws.{Derived, SameGround}
use Rattle.model.proofs.Sums.{distrib, assoc, signed_sum_ext}
use Rattle.model.proofs.Checks.{lowest_some, lowest_none, lowest_ext}

-- ---- tests
pub all_below_decides : (f : ℕ → Bool) (k : ℕ) → Decides (all_below f k) ((i : ℕ) → i < k → f i ≡ true)
all_below_decides f k = Decides-below_and f (λ i. f i ≡ true) (all_below f) (λ i. (λ e. e, λ e. e)) refl (λ n. and_comm (all_below f n) (f n)) k

pub all_below_says : (f : ℕ → Bool) (k : ℕ) → all_below f k ≡ true → (i : ℕ) → i < k → f i ≡ true
all_below_says f k = (all_below_decides f k).0

pub range_weights : (w b : ℕ) (n : Net) (l : ℕ → ℤ) (x : ℤ) → in_range w b n l x ≡ true → (p : ℕ) → p < n.ground_places → nat_abs (l p) ≤ w
range_weights w b n l x e p k = leb-true (nat_abs (l p)) w (all_below_says (λ i. leb (nat_abs (l i)) w) n.ground_places (and_parts (all_below (λ i. leb (nat_abs (l i)) w) n.ground_places) (leb (nat_abs x) b) e).0 p k)

pub range_bound : (w b : ℕ) (n : Net) (l : ℕ → ℤ) (x : ℤ) → in_range w b n l x ≡ true → nat_abs x ≤ b
range_bound w b n l x e = leb-true (nat_abs x) b (and_parts (all_below (λ i. leb (nat_abs (l i)) w) n.ground_places) (leb (nat_abs x) b) e).1

divisor_range : (k a e : ℕ) → (1 ≤ divisor k a e) × (divisor k a e ≤ max 1 k)
divisor_range zero a e = omega arith
divisor_range (suc k) a e = grind (arith, divisor_range k a e)

times_some : (a e : ℕ) → 1 ≤ e → 1 ≤ e / divisor e a e
times_some a e l = le-div 1 e (divisor e a e) (divisor_range e a e).0 (omega (arith, divisor_range e a e))

-- ---- one round
low_sum : (k : ℕ) (r c : ℤ) → pos 0 ≤ℤ r → pos 0 ≤ℤ c → pos 0 ≤ℤ (pos k *ℤ r +ℤ c)
low_sum k (pos a) (pos b) h m = omega (arith, ints)
low_sum k (pos a) (negsuc b) h m = absurd m.le
low_sum k (negsuc a) c h m = absurd h.le

at_low : (b : Bool) (x : ℕ) → pos 0 ≤ℤ cond b (pos x) (pos 0)
at_low b x = grind (arith, ints)

round_derived : (n : Net) (typed : Rule) (r : Worked) (p h a e : ℕ) → Derived n.ground_places typed r → p < n.ground_places → 1 ≤ e / h → fits n (absorbed r p h a e) ≡ true → Derived n.ground_places typed (absorbed r p h a e)
round_derived n typed r p h a e s l some ok = record {
  weights_in = range_weights most_worked_weight most_worked_bound n (absorbed r p h a e).weight (absorbed r p h a e).bound ok;
  weights_out = λ off i k. out i (ne_eqb i p (λ q. omega arith)) (s.weights_out off i k);
  bound_in = range_bound most_worked_weight most_worked_bound n (absorbed r p h a e).weight (absorbed r p h a e).bound ok;
  typed_weights_in = s.typed_weights_in;
  typed_bound_in = s.typed_bound_in;
  factor = (e / h) * s.factor;
  factor_some = mul-le-mul some s.factor_some;
  rest = λ i. pos (e / h) *ℤ s.rest i +ℤ cond (eqb i p) (pos (a / h)) (pos 0);
  rest_low = λ i k. low_sum (e / h) (s.rest i) (cond (eqb i p) (pos (a / h)) (pos 0)) (s.rest_low i k) (at_low (eqb i p) (a / h));
  blend = λ i k. mix (e / h) s.factor (r.weight i) (s.rest i) (typed.weight i) (cond (eqb i p) (pos (a / h)) (pos 0)) (s.blend i k);
  blend_bound = ap (λ x. pos (e / h) *ℤ x -ℤ pos 1) back ∙ ap (λ x. x -ℤ pos 1) (sym (assoc (e / h) (pos s.factor) (typed.bound +ℤ pos 1)));
}
  where
    out : (i : ℕ) → eqb i p ≡ false → r.weight i ≡ pos 0 → pos (e / h) *ℤ r.weight i +ℤ cond (eqb i p) (pos (a / h)) (pos 0) ≡ pos 0
    out i q z = ap (λ x. pos (e / h) *ℤ r.weight i +ℤ cond x (pos (a / h)) (pos 0)) q ∙ ap (λ x. pos (e / h) *ℤ x +ℤ pos 0) z ∙ nil (e / h)
      where
        nil : (k : ℕ) → pos k *ℤ pos 0 +ℤ pos 0 ≡ pos 0
        nil k = omega (arith, ints)

    back : r.bound +ℤ pos 1 ≡ pos s.factor *ℤ (typed.bound +ℤ pos 1)
    back = omega (arith, ints, s.blend_bound)

    mix : (k f : ℕ) (w r l c : ℤ) → w ≡ r +ℤ pos f *ℤ l → pos k *ℤ w +ℤ c ≡ (pos k *ℤ r +ℤ c) +ℤ pos (k * f) *ℤ l
    mix k f w r l c q = omega (arith, ints, ap (λ x. pos k *ℤ x) q, distrib (pos k) r (pos f *ℤ l), assoc k (pos f) l)

-- ---- all rounds
record Done (n : Net) (typed : Rule) (w : Worked) : Type 0 where
  derived : Derived n.ground_places typed w
  still : (t : ℕ) → t < n.moves → rising n w t ≡ false

cond_ok : (b : Bool) (x : Result Worked Fault) (f : Fault) (w : Worked) → cond b x (Err f) ≡ Ok w → (b ≡ true) × (x ≡ Ok w)
cond_ok b x f w e = grind arith

done_here : (n : Net) (typed : Rule) (r w : Worked) → Derived n.ground_places typed r → lowest (rising n r) 0 n.moves ≡ None → r ≡ w → Done n typed w
done_here n typed r w s none e = subst (λ (x : Worked). Done n typed x) e (record { derived = s; still = lowest_none (rising n r) n.moves none })

place_done : (n : Net) (typed : Rule) (r w : Worked) (on : Worked → Result Worked Fault) → ((r : Worked) → Derived n.ground_places typed r → on r ≡ Ok w → Done n typed w) → Derived n.ground_places typed r →
    (t : ℕ) (o : Option ℕ) → lowest (falls n t) 0 n.ground_places ≡ o → at_place on n r t o ≡ Ok w → Done n typed w
place_done n typed r w on rec s t None q e = grind arith
place_done n typed r w on rec s t (Some p) q e =
    let f = lowest_some (falls n t) n.ground_places p q in
    let c = cond_ok (fits n (changed n r t p)) (on (changed n r t p)) (setting_fault TooLarge) w e in
    rec (changed n r t p)
    (round_derived n typed r p (divisor (n.take p t - n.give p t) (positive (raise n r.weight t)) (n.take p t - n.give p t)) (positive (raise n r.weight t)) (n.take p t - n.give p t)
    s f.1 (times_some (positive (raise n r.weight t)) (n.take p t - n.give p t) (omega (arith, ltb-true (n.give p t) (n.take p t) f.0))) c.0)
    c.1

move_done : (n : Net) (typed : Rule) (r w : Worked) (on : Worked → Result Worked Fault) → ((r : Worked) → Derived n.ground_places typed r → on r ≡ Ok w → Done n typed w) → Derived n.ground_places typed r →
    (o : Option ℕ) → lowest (rising n r) 0 n.moves ≡ o → at_move on n r o ≡ Ok w → Done n typed w
move_done n typed r w on rec s None q e = done_here n typed r w s q cc
move_done n typed r w on rec s (Some t) q e = place_done n typed r w on rec s t (lowest (falls n t) 0 n.ground_places) refl e

end_done : (n : Net) (typed : Rule) (r w : Worked) → Derived n.ground_places typed r → (o : Option ℕ) → lowest (rising n r) 0 n.moves ≡ o → at_end r o ≡ Ok w → Done n typed w
end_done n typed r w s None q e = done_here n typed r w s q cc
end_done n typed r w s (Some t) q e = grind arith

rounds_done : (k : ℕ) (n : Net) (typed : Rule) (w r : Worked) → Derived n.ground_places typed r → rounds_from k n r ≡ Ok w → Done n typed w
unfolding rounds_from
rounds_done zero n typed w r s e = end_done n typed r w s (lowest (rising n r) 0 n.moves) refl e
rounds_done (suc k) n typed w r s e = move_done n typed r w (rounds_from k n) (λ x. rounds_done k n typed w x) s (lowest (rising n r) 0 n.moves) refl e

typed_derived : (n : Net) (r : Rule) → in_range most_weight most_bound n r.weight r.bound ≡ true → Derived n.ground_places r (unchanged r)
typed_derived n r e = record {
  weights_in = λ p l. omega (arith, range_weights most_weight most_bound n r.weight r.bound e p l);
  weights_out = λ off. off;
  bound_in = omega (arith, range_bound most_weight most_bound n r.weight r.bound e);
  typed_weights_in = range_weights most_weight most_bound n r.weight r.bound e;
  typed_bound_in = range_bound most_weight most_bound n r.weight r.bound e;
  factor = 1;
  factor_some = omega arith;
  rest = λ p. pos 0;
  rest_low = λ p l. omega (arith, ints);
  blend = λ p l. omega (arith, ints);
  blend_bound = omega (arith, ints);
}

work_done : (n : Net) (typed : Rule) (w : Worked) → work n typed ≡ Ok w → Done n typed w
work_done n typed w e =
    let c = cond_ok (is_typed n typed) (rounds_from most_rounds n (unchanged typed)) (setting_fault NotTyped) w e in
    rounds_done most_rounds n typed w (unchanged typed) (typed_derived n typed (and_parts (in_range most_weight most_bound n typed.weight typed.bound) (ground_only n typed) c.0).0) c.1

pub not_rising : (b : Bool) (z : ℤ) → b ≡ false → not b && lt_z (pos 0) z ≡ false → z ≤ℤ pos 0
not_rising b z e k = grind (arith, ints)

-- ---- the ground alone is looked at
module _ (n m : Net) (s : SameGround n m) where
  pub same_change : (p t : ℕ) → p < n.ground_places → incidence m p t ≡ incidence n p t
  same_change p t l = ap₂ (λ a b. pos a -ℤ pos b) (s.same_give p t l) (s.same_take p t l)

  pub same_raise : (l : ℕ → ℤ) (t : ℕ) → raise m l t ≡ raise n l t
  same_raise l t = ap (λ g. signed_sum g (λ p. l p *ℤ incidence m p t)) s.same_ground ∙ signed_sum_ext n.ground_places (λ p. l p *ℤ incidence m p t) (λ p. l p *ℤ incidence n p t) (λ p h. ap (λ x. l p *ℤ x) (same_change p t h))

  same_rising : (r : Worked) (t : ℕ) → rising m r t ≡ rising n r t
  same_rising r t = ap₂ (λ b z. not b && lt_z (pos 0) z) (s.same_controllable t) (same_raise r.weight t)

  same_moving : (r : Worked) → lowest (rising m r) 0 m.moves ≡ lowest (rising n r) 0 n.moves
  same_moving r = ap (λ k. lowest (rising m r) 0 k) s.same_moves ∙ lowest_ext (rising m r) (rising n r) 0 n.moves (λ t a b. same_rising r t)

  same_placing : (t : ℕ) → lowest (falls m t) 0 m.ground_places ≡ lowest (falls n t) 0 n.ground_places
  same_placing t = ap (λ k. lowest (falls m t) 0 k) s.same_ground
      ∙ lowest_ext (falls m t) (falls n t) 0 n.ground_places (λ p a b. ap₂ (λ x y. ltb x y) (s.same_give p t (in_it p b)) (s.same_take p t (in_it p b)))
    where
      in_it : (p : ℕ) → p < 0 + n.ground_places → p < n.ground_places
      in_it p h = omega arith

  same_range : (w b : ℕ) (l : ℕ → ℤ) (x : ℤ) → in_range w b m l x ≡ in_range w b n l x
  same_range w b l x = ap (λ g. all_below (λ p. leb (nat_abs (l p)) w) g && leb (nat_abs x) b) s.same_ground

  same_changed : (r : Worked) (t p : ℕ) → p < n.ground_places → changed m r t p ≡ changed n r t p
  same_changed r t p l = ap₂ (λ a e. absorbed r p (divisor e (positive a) e) (positive a) e) (same_raise r.weight t) (ap₂ (λ x y. x - y) (s.same_take p t l) (s.same_give p t l))

  same_at_place : (on on' : Worked → Result Worked Fault) → ((r : Worked) → on r ≡ on' r) → (r : Worked) (t : ℕ) (o : Option ℕ) → lowest (falls n t) 0 n.ground_places ≡ o → at_place on m r t o ≡ at_place on' n r t o
  same_at_place on on' h r t None q = refl
  same_at_place on on' h r t (Some p) q =
      let e : changed m r t p ≡ changed n r t p = same_changed r t p (lowest_some (falls n t) n.ground_places p q).1 in
      ap (λ x. cond (fits m x) (on x) (Err (setting_fault TooLarge))) e
      ∙ ap₂ (λ b x. cond b x (Err (setting_fault TooLarge))) (same_range most_worked_weight most_worked_bound (changed n r t p).weight (changed n r t p).bound) (h (changed n r t p))

  same_at_move : (on on' : Worked → Result Worked Fault) → ((r : Worked) → on r ≡ on' r) → (r : Worked) (o : Option ℕ) → at_move on m r o ≡ at_move on' n r o
  same_at_move on on' h r None = refl
  same_at_move on on' h r (Some t) = ap (at_place on m r t) (same_placing t) ∙ same_at_place on on' h r t (lowest (falls n t) 0 n.ground_places) refl

  same_rounds : (k : ℕ) (r : Worked) → rounds_from k m r ≡ rounds_from k n r
  unfolding rounds_from
  same_rounds zero r = ap (at_end r) (same_moving r)
  same_rounds (suc k) r = ap (at_move (rounds_from k m) m r) (same_moving r) ∙ same_at_move (rounds_from k m) (rounds_from k n) (λ x. same_rounds k x) r (lowest (rising n r) 0 n.moves)

  pub work_on_ground : (r : Rule) → work m r ≡ work n r
  work_on_ground r = ap₂ (λ b x. cond b x (Err (setting_fault NotTyped))) (ap₂ (λ a b. a && b) (same_range most_weight most_bound r.weight r.bound) (ap (λ g. all_below (λ p. ltb p g || eqb (nat_abs (r.weight p)) 0) most_all_places) s.same_ground)) (same_rounds most_rounds (unchanged r))

pub work_derives : (n : Net) (typed : Rule) (w : Worked) → work n typed ≡ Ok w → Derived n.ground_places typed w
work_derives n typed w e = (work_done n typed w e).derived

pub work_quiets : (n : Net) (typed : Rule) (w : Worked) → work n typed ≡ Ok w → (t : ℕ) → t < n.moves → n.controllable t ≡ false → raise n w.weight t ≤ℤ pos 0
work_quiets n typed w e t l u = not_rising (n.controllable t) (raise n w.weight t) u ((work_done n typed w e).still t l)
