-- A setting, and a new layer, keep the invariant.
use Rattle.std.proofs.Common.{◌≡◌, ℕ, ◌*◌, ◌<◌, ◌≤◌, max, Bool, true, false, eqb, ◌⊎◌, List, ◌∷◌, ℤ, pos, ◌+ℤ◌, ◌-ℤ◌, ◌*ℤ◌, ◌≤ℤ◌, Ok, sym, refl, ap, ◌∙◌, subst, inl, inr, le_trans, arith, eqb-true}
use mathlib.Core.List.Memᴰ
use mathlib.Core.List.{Memᴰ}
use borrow.Author.Tests.{eqb-false}
use borrow.Author.Differences.{ints}
use Rattle.model.specs.Net.{Net, sum}
use Rattle.model.specs.Sizes.{most_limit, control_limit}
use Rattle.model.specs.Rule.{Rule, Worked, raise, positive, negative, weighted, weighted_free}
use Rattle.model.specs.Working.{work}
use Rattle.model.specs.Layer.{InForce}
use Rattle.model.specs.Laws.{Derived, BlankPlace, Ruled}
use Rattle.model.proofs.Sums.{sum_none, signed_sum_ext}
use Rattle.model.proofs.Setting.{pick, pick_same, pick_other, positive_le, weighted_abs, set_net, set_free, set_raise, set_same, set_ranges}
use Rattle.model.proofs.Working.{work_on_ground, work_derives, work_quiets}
use Rattle.model.proofs.Steady.{held_open, Stands, Steady}

-- the book may hold anything off the ground
pub other_book : (n : Net) (free g : ℕ → ℕ) (q q' : ℕ → ℤ) (rs : List InForce) → ((p : ℕ) → p < n.ground_places → q' p ≡ q p) → Steady n free g q rs → Steady n free g q' rs
other_book n free g q q' rs e s = record {
  ranges = s.ranges;
  roomy = s.roomy;
  few = s.few;
  beyond = s.beyond;
  marked = λ p l. e p l ∙ s.marked p l;
  rules = λ r m. rule r (s.rules r m);
  control = s.control;
}
  where
    rule : (r : InForce) → Stands n free g q r → Stands n free g q' r
    rule r k = record {
      low = k.low;
      high = k.high;
      takes = k.takes;
      gives = k.gives;
      adds_up = ap (λ x. (x +ℤ pos (free r.place)) +ℤ pos (held_open n g r.worked.weight)) (signed_sum_ext n.ground_places (λ p. r.worked.weight p *ℤ q' p) (λ p. r.worked.weight p *ℤ q p) (λ p l. ap (λ x. r.worked.weight p *ℤ x) (e p l))) ∙ k.adds_up;
      working = k.working;
    }

row_sum : (x b d : ℤ) (v f h : ℕ) → d ≡ b -ℤ x → v ≡ positive d → x ≤ℤ b → f ≡ v → h ≡ 0 → (x +ℤ pos f) +ℤ pos h ≡ b
row_sum x b d v f h e k j l m = grind (arith, ints)

module _ (n : Net) (free g : ℕ → ℕ) (q : ℕ → ℤ) (rs : List InForce) (s : Steady n free g q rs) (z : (t : ℕ) → g t ≡ 0) where
  none : (h : ℕ → ℕ) → sum n.moves (λ u. g u * h u) ≡ 0
  none h = sum_none n.moves g h (λ i l. z i)

  free_is : (p : ℕ) → p < n.ground_places → q p ≡ pos (free p)
  free_is p l = omega (arith, ints, s.marked p l, none (n.take p))

  free_fits : (p : ℕ) → p < n.places → free p ≤ n.limit p
  free_fits p l = omega (arith, s.roomy p l)

  free_small : (p : ℕ) → p < n.ground_places → free p ≤ most_limit
  free_small p l = le_trans (free_fits p (omega (arith, s.ranges.places_all))) (s.ranges.ground_limit p l).1

  weighted_is : (w : ℕ → ℤ) → weighted n w q ≡ weighted_free n w free
  weighted_is w = signed_sum_ext n.ground_places (λ p. w p *ℤ q p) (λ p. w p *ℤ pos (free p)) (λ p l. ap (λ x. w p *ℤ x) (free_is p l))

  module _ (c : ℕ) (typed : Rule) (w : Worked) (low : n.ground_places ≤ c) (high : c < n.places)
      (fresh : (i : InForce) → Memᴰ i rs → i.place ≡ c → ⊥) (is : work n typed ≡ Ok w)
      (fits : weighted_free n w.weight free ≤ℤ w.bound) where
    derived : Derived n.ground_places typed w
    derived = work_derives n typed w is

    -- working looks at the ground part alone, and that is as it was
    still_works : (r : Rule) → work (set_net n c w) r ≡ work n r
    still_works r = work_on_ground n (set_net n c w) (set_same n c w low) r

    row_bounded : positive (w.bound -ℤ weighted_free n w.weight free) ≤ control_limit
    row_bounded = omega (arith, ints, positive_le (w.bound -ℤ weighted_free n w.weight free), derived.bound_in, weighted_abs n w.weight (λ p. pos (free p)) s.ranges derived.weights_in free_small)

    new_stands : Stands (set_net n c w) (set_free n free c w) g q (record { place = c; typed = typed; worked = w })
    new_stands = record {
      low = low;
      high = high;
      takes = λ t. pick_same c (positive (raise n w.weight t)) (n.take c t) ∙ ap positive (sym (set_raise n c w low w.weight t));
      gives = λ t. pick_same c (negative (raise n w.weight t)) (n.give c t) ∙ ap negative (sym (set_raise n c w low w.weight t));
      adds_up = row_sum (weighted n w.weight q) w.bound (w.bound -ℤ weighted_free n w.weight free) (positive (w.bound -ℤ weighted_free n w.weight free)) (set_free n free c w c) (held_open (set_net n c w) g w.weight)
          (ap (λ x. w.bound -ℤ x) (sym (weighted_is w.weight)))
          refl (subst (λ (x : ℤ). x ≤ℤ w.bound) (sym (weighted_is w.weight)) fits)
          (pick_same c (positive (w.bound -ℤ weighted_free n w.weight free)) (free c))
          (none (λ t. positive (raise (set_net n c w) w.weight t)));
      working = still_works typed ∙ is;
    }

    old_stands : (r : InForce) → (r.place ≡ c → ⊥) → Stands n free g q r → Stands (set_net n c w) (set_free n free c w) g q r
    old_stands r d k = record {
      low = k.low;
      high = k.high;
      takes = λ t. pick_other r.place c (positive (raise n w.weight t)) (n.take r.place t) d ∙ k.takes t ∙ ap positive (sym (set_raise n c w low r.worked.weight t));
      gives = λ t. pick_other r.place c (negative (raise n w.weight t)) (n.give r.place t) d ∙ k.gives t ∙ ap negative (sym (set_raise n c w low r.worked.weight t));
      adds_up = omega (
        arith,
        ints,
        k.adds_up,
        pick_other r.place c (positive (w.bound -ℤ weighted_free n w.weight free)) (free r.place) d,
        none (λ t. positive (raise n r.worked.weight t)),
        none (λ t. positive (raise (set_net n c w) r.worked.weight t)),
      );
      working = still_works r.typed ∙ k.working;
    }

    old_control : (i : ℕ) → (i ≡ c → ⊥) → BlankPlace n free i ⊎ Ruled rs i → BlankPlace (set_net n c w) (set_free n free c w) i ⊎ Ruled (record { place = c; typed = typed; worked = w } ∷ rs) i
    old_control i d (inl b) = inl (record {
      no_free = pick_other i c (positive (w.bound -ℤ weighted_free n w.weight free)) (free i) d ∙ b.no_free;
      no_take = λ t. pick_other i c (positive (raise n w.weight t)) (n.take i t) d ∙ b.no_take t;
      no_give = λ t. pick_other i c (negative (raise n w.weight t)) (n.give i t) d ∙ b.no_give t;
    })
    old_control i d (inr r) = inr (record { rule = r.rule; stands = Memᴰ.tail r.stands; there = r.there })

    new_control : (i : ℕ) (b : Bool) → eqb i c ≡ b → BlankPlace n free i ⊎ Ruled rs i → BlankPlace (set_net n c w) (set_free n free c w) i ⊎ Ruled (record { place = c; typed = typed; worked = w } ∷ rs) i
    new_control i true e k = inr (record { rule = record { place = c; typed = typed; worked = w }; stands = Memᴰ.head refl; there = sym (eqb-true i c e) })
    new_control i false e k = old_control i (eqb-false i c e) k

    new_rules : (r : InForce) → (r ≡ record { place = c; typed = typed; worked = w }) ⊎ Memᴰ r rs → Stands (set_net n c w) (set_free n free c w) g q r
    new_rules r (inl e) = subst (λ (x : InForce). Stands (set_net n c w) (set_free n free c w) g q x) (sym e) new_stands
    new_rules r (inr m) = old_stands r (fresh r m) (s.rules r m)

    new_room : (p : ℕ) → p < n.places → set_free n free c w p ≤ n.limit p
    new_room p l = pick (λ x. x ≤ n.limit p) p c (positive (w.bound -ℤ weighted_free n w.weight free)) (free p)
        (λ e. subst (λ (x : ℕ). positive (w.bound -ℤ weighted_free n w.weight free) ≤ x) (sym (s.ranges.control_limited p (subst (λ (x : ℕ). n.ground_places ≤ x) (sym e) low) l)) row_bounded)
        (λ d. free_fits p l)

    pub placed : Steady (set_net n c w) (set_free n free c w) g q (record { place = c; typed = typed; worked = w } ∷ rs)
    placed = record {
      ranges = set_ranges n c w low s.ranges high derived.weights_in (work_quiets n typed w is);
      roomy = λ p l. omega (arith, none (λ u. max ((set_net n c w).take p u) ((set_net n c w).give p u)), new_room p l);
      few = s.few;
      beyond = s.beyond;
      marked = λ p l. free_is p l ∙ ap pos (omega (arith, pick_other p c (positive (w.bound -ℤ weighted_free n w.weight free)) (free p) (λ e. omega arith), none ((set_net n c w).take p)));
      rules = λ r m. new_rules r (Memᴰ.cases_cons m);
      control = λ i l. new_control i (eqb i c) refl (s.control i l);
    }
