-- A weighted sum as the code takes it: by `map` and `sum` over the range of the places, with a closure that gives a number of each.
use Rattle.std.proofs.Common.{◌≡◌, ℕ, ◌+◌, ◌*◌, ◌<◌, ◌≤◌, List, [], ◌∷◌, ℤ, pos, ◌+ℤ◌, ◌*ℤ◌, nat_abs, sym, refl, ap, ◌∙◌, subst, ap₂, add-one, arith, w32, SFits, to_z, of_z}
use Rattle.std.proofs.lemmas.Int.{ints}
use Rattle.std.specs.Fn.{Called, Mut}
use Rattle.std.specs.List.{fold}
use Rattle.std.specs.Iterator.{Yields, Drains}
use Rattle.std.specs.Iterator.Adapters.{map_steps}
use Rattle.std.specs.Iterator.Runs.{EachRunFrom, YieldsRun}
use Rattle.std.specs.declared.iter.Map.{Map}
use Rattle.std.specs.declared.ops.Range.{Range}
use Rattle.std.proofs.iter.Yields.{nat_range_steps}
use Rattle.model.specs.Sizes.{most_places, most_limit, most_worked_weight}
use Rattle.model.specs.Net.{signed_sum}
use Rattle.model.proofs.Sums.{abs_mul_le}
use Rattle.plant.specs.Searches.{Gives}
use Rattle.rules.specs.Weighing.{Limited}
use Rattle.rules.proofs.Terms.{most_term, product_fits}

pub term_fits : (a b : ℤ) → nat_abs a ≤ most_worked_weight → nat_abs b ≤ most_limit → SFits w32 (a *ℤ b)
term_fits a b h k = product_fits a b most_worked_weight most_limit (omega arith) h k

-- the closure f gives of the place i the weight w i times a number that post says, as the code has the product
module _ {F : Type 0} {g : Mut F (ℕ × Unit {0}) ℤ} (f : F) (n : ℕ) (w : ℕ → ℤ) (post : ℕ → ℤ → Type 0) (few : n ≤ most_places)
    (weights : (p : ℕ) → nat_abs (w p) ≤ most_worked_weight) (limited : Limited post n)
    (tells : (i : ℕ) (r : ℤ) (q : F) → i < n → Called g f (i, tt) r q → (q ≡ f) × (z : ℤ) × post i z × (r ≡ to_z w32 (of_z w32 (w i *ℤ z)))) where
  -- a is the sum over the places below i
  abbrev So : ℕ → ℤ → Type 0
  So i a = (nat_abs a ≤ i * most_term) × ((h : ℕ → ℤ) → Gives post n h → a ≡ signed_sum i (λ p. w p *ℤ h p))

  more : (i : ℕ) (a r : ℤ) (q : F) → i < n → So i a → Called g f (i, tt) r q → (q ≡ f) × So (i + 1) (a +ℤ r)
  more i a r q l so k =
      let t = tells i r q l k in
      let size : nat_abs (w i *ℤ t.1) ≤ most_term = abs_mul_le (w i) t.1 most_worked_weight most_limit (weights i) (limited i t.1 l t.2) in
      let is : r ≡ w i *ℤ t.1 = t.3 ∙ plain (w i *ℤ t.1) size in (
        t.0,
        (
          rw is (omega (arith, ints, so.0, size)),
          λ h gives. ap₂ (λ x y. x +ℤ y) (so.1 h gives) (is ∙ ap (λ z. w i *ℤ z) (gives i t.1 l t.2)) ∙ sym (ap (λ k. signed_sum k (λ p. w p *ℤ h p)) (add-one i)),
        ),
      )
    where
      plain : (z : ℤ) → nat_abs z ≤ most_term → to_z w32 (of_z w32 z) ≡ z
      plain z h = omega (arith, ints)

  on : (xs : List ℤ) (a : ℤ) (s t : Map (Range ℕ) F) → s.iter.end ≡ n → s.iter.start ≤ n → s.f ≡ f → So s.iter.start a → Yields (map_steps nat_range_steps g) s xs t
      → (t.iter.end ≡ n) × (t.iter.start ≤ n) × So t.iter.start (fold ◌+ℤ◌ a xs)
  on [] a s t e l c so y = subst (λ (u : Map (Range ℕ) F). (u.iter.end ≡ n) × (u.iter.start ≤ n) × So u.iter.start a) y (e, l, so)
  on (r ∷ xs) a s t e l c so y =
      let u : Map (Range ℕ) F = y.0 in
      let turn = y.1 in
      let inside : s.iter.start < n = omega (arith, e, turn.1.1.0) in
      let one = more s.iter.start a r u.f inside so (subst (λ (h : F). Called g h (s.iter.start, tt) r u.f) c (subst (λ (x : ℕ). Called g s.f (x, tt) r u.f) turn.1.1.1 turn.2)) in
      on xs (a +ℤ r) u t (turn.1.0 ∙ e) (omega (arith, inside, turn.1.1.2)) one.0 (subst (λ (i : ℕ). So i (a +ℤ r)) (sym turn.1.1.2) one.1) y.2

  module _ (s : Map (Range ℕ) F) (from : s.iter ≡ record { start = 0; end = n }) (callee : s.f ≡ f) where
    so_far : (xs : List ℤ) (t : Map (Range ℕ) F) → Yields (map_steps nat_range_steps g) s xs t → (t.iter.end ≡ n) × (t.iter.start ≤ n) × So t.iter.start (fold ◌+ℤ◌ (pos 0) xs)
    so_far xs t y =
        let first : s.iter.start ≡ 0 = ap (λ (i : Range ℕ). i.start) from in
        on xs (pos 0) s t (ap (λ (i : Range ℕ). i.end) from) (omega (arith, first)) callee (subst (λ (i : ℕ). So i (pos 0)) (sym first) (omega arith, λ h gives. refl)) y

    pub sum_fits : EachRunFrom (map_steps nat_range_steps g) s (λ p. SFits w32 (fold ◌+ℤ◌ (pos 0) p.items))
    unfolding YieldsRun
    sum_fits = λ p _ at.
        let k = so_far p.items p.gave.0.0 (subst (λ (u : Map (Range ℕ) F). Yields (map_steps nat_range_steps g) u p.items p.gave.0.0) at p.gave.0.1) in
        fits (fold ◌+ℤ◌ (pos 0) p.items) p.gave.0.0.iter.start k.1 k.2.0
      where
        fits : (a : ℤ) (i : ℕ) → i ≤ n → nat_abs a ≤ i * most_term → SFits w32 a
        fits a i l h = omega (arith, ints, few)

    pub sum_is : (r : ℤ) → (xs : List ℤ) × (Unit {0} → Drains (map_steps nat_range_steps g) s xs) × (r ≡ fold ◌+ℤ◌ (pos 0) xs) → So n (to_z w32 (of_z w32 r))
    sum_is r ran =
        let end = (ran.1 tt).1 in
        let k = so_far ran.0 end.0 end.1 in
        let all : end.0.iter.start ≡ n = omega (arith, k.0, k.1, end.2.0.1.0) in
        let so = subst (So n) (sym ran.2) (subst (λ (i : ℕ). So i (fold ◌+ℤ◌ (pos 0) ran.0)) all k.2) in
        subst (So n) (sym (plain r so.0)) so
      where
        plain : (z : ℤ) → nat_abs z ≤ n * most_term → to_z w32 (of_z w32 z) ≡ z
        plain z h = omega (arith, ints, few)
