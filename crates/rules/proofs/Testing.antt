-- A test of each number below k, as a loop makes it, and the tests of a rule's numbers.
use Rattle.std.proofs.Common.{◌≡◌, ℕ, zero, suc, ◌+◌, ◌-◌, ◌<◌, ◌≤◌, Bool, true, false, ◌&&◌, ◌||◌, eqb, ltb, leb, ◌⊎◌, List, length, get_or, take, drop, ℤ, pos, nat_abs, Ok, Err, sym, refl, ap, ◌∙◌, ap₂, inl, inr, add-one, length-drop, arith}
use Rattle.std.specs.List.{list_all}
use Rattle.std.proofs.lemmas.List.{get_or_past, get_or-take, get_or-drop, get_or_default, length-take}
use Rattle.std.proofs.lemmas.List.Folds.{list_all_more}
use Rattle.std.proofs.lemmas.List.Sums.{AllPass-from_list_all, list_all-from_AllPass}
use Rattle.std.proofs.lemmas.Int.{ints}
use Rattle.std.proofs.lemmas.Bool.{cases_lt, ltb-true, ltb-false, leb-true, le-leb, eqb-true, eq-eqb, and_from, and_left, or_left, or_right, or_cases, and_parts, cases_Bool, cond-true}
use Rattle.model.specs.declared.fault.Fault.{Fault}
use Rattle.model.specs.Sizes.{most_places, most_all_places, most_weight, most_bound, most_worked_weight, most_worked_bound}
use Rattle.model.specs.Net.{Net}
use Rattle.model.specs.Plant.{refuse_unless}
use Rattle.model.specs.Rule.{Rule, all_below, in_range}
use Rattle.model.specs.Working.{ground_only, is_typed}
use Rattle.model.proofs.Working.{all_below_says, range_weights, range_bound}
use Rattle.rules.specs.Rounding.{before_rounds}

all_pass : (f : ℕ → Bool) (k : ℕ) → ((i : ℕ) → i < k → f i ≡ true) → all_below f k ≡ true
all_pass f zero h = refl
all_pass f (suc k) h = and_from (all_below f k) (f k) (all_pass f k (λ i l. h i (omega arith))) (h k (omega arith))

-- the weights of the places below n pass a test exactly where each of those places does
pub all_front : (f : ℤ → Bool) (ws : List ℤ) (n : ℕ) → n ≤ length ws → list_all f (take n ws) ≡ all_below (λ p. f (get_or ws p (pos 0))) n
all_front f ws zero l = refl
all_front f ws (suc n) l =
    ap (λ (k : ℕ). list_all f (take k ws)) (sym (add-one n)) ∙ list_all_more f ws n (pos 0) (omega arith)
    ∙ ap (λ (b : Bool). b && f (get_or ws n (pos 0))) (all_front f ws n (omega arith))

same_truth : (s t : Bool) → (s ≡ true → t ≡ true) → (t ≡ true → s ≡ true) → s ≡ t
same_truth true t h k = sym (h refl)
same_truth false true h k = k refl
same_truth false false h k = refl

none : (z : ℤ) → nat_abs z ≡ 0 → z ≡ pos 0
none z e = omega (arith, ints)

weighs_ground : (n : Net) (r : Rule) → ((p : ℕ) → n.ground_places ≤ p → r.weight p ≡ pos 0) → ground_only n r ≡ true
weighs_ground n r h = all_pass (λ i. ltb i n.ground_places || eqb (nat_abs (r.weight i)) 0) most_all_places (λ i l. at i)
  where
    at : (i : ℕ) → ltb i n.ground_places || eqb (nat_abs (r.weight i)) 0 ≡ true
    at i = elim (cases_Bool (ltb i n.ground_places)) [
      | inl t ↦ or_left (ltb i n.ground_places) (eqb (nat_abs (r.weight i)) 0) t
      | inr t ↦ or_right (ltb i n.ground_places) (eqb (nat_abs (r.weight i)) 0) (eq-eqb (nat_abs (r.weight i)) 0 (ap nat_abs (h i (ltb-false i n.ground_places t))))
    ]

-- the numbers of a rule are small, as the code asks it: a whether the weights are, u being the size of the bound
pub range_is : (m k : ℕ) (n : Net) (ws : List ℤ) (b : ℤ) (g : ℕ) → g ≡ n.ground_places → g ≤ length ws → (a : Bool) → a ≡ list_all (λ z. leb (nat_abs z) m) (take g ws)
    → (u : ℕ) → u ≡ nat_abs b → (a && leb u k) ≡ in_range m k n (λ p. get_or ws p (pos 0)) b
range_is m k n ws b g e few a is u same =
    ap₂ (λ (x y : Bool). x && y) (is ∙ all_front (λ z. leb (nat_abs z) m) ws g few ∙ ap (all_below (λ p. leb (nat_abs (get_or ws p (pos 0))) m)) e) (ap (λ (x : ℕ). leb x k) same)

-- the weights of the places from the ground on are 0 exactly where the rule weighs ground places only
pub beyond_is : (n : Net) (ws : List ℤ) (b : ℤ) (g : ℕ) → g ≡ n.ground_places → length ws ≡ most_places → (r : Bool) → r ≡ list_all (λ z. leb (nat_abs z) 0) (take (most_places - g) (drop g ws))
    → r ≡ ground_only n (record { weight = λ p. get_or ws p (pos 0); bound = b })
beyond_is n ws b g e size r is = same_truth r (ground_only n rule) there back
  where
    rule : Rule
    rule = record { weight = λ p. get_or ws p (pos 0); bound = b }

    rest : List ℤ
    rest = take (most_places - g) (drop g ws)

    long : length rest ≡ most_places - g
    long = omega (arith, length-take (most_places - g) (drop g ws), length-drop g ws)

    read : (k : ℕ) (d : ℤ) → g + k < most_places → get_or rest k d ≡ get_or ws (g + k) (pos 0)
    read k d l = get_or-take (most_places - g) (drop g ws) k d (omega arith) ∙ get_or-drop g ws k d ∙ get_or_default ws (g + k) d (pos 0) (omega arith)

    there : r ≡ true → ground_only n rule ≡ true
    there h = weighs_ground n rule at
      where
        at : (p : ℕ) → n.ground_places ≤ p → get_or ws p (pos 0) ≡ pos 0
        at p l = elim (cases_lt p most_places) [
          | inl m ↦
              let k : g + (p - g) ≡ p = omega arith in
              let low : leb (nat_abs (get_or rest (p - g) (pos 0))) 0 ≡ true = AllPass-from_list_all (λ z. leb (nat_abs z) 0) rest (sym is ∙ h) (p - g) (pos 0) (omega (arith, long)) in
              none (get_or ws p (pos 0)) (omega (arith, leb-true _ _ low, ap nat_abs (read (p - g) (pos 0) (omega arith) ∙ ap (λ (q : ℕ). get_or ws q (pos 0)) k)))
          | inr m ↦ get_or_past ws p (pos 0) (omega arith)
        ]

    back : ground_only n rule ≡ true → r ≡ true
    back h = is ∙ list_all-from_AllPass (λ z. leb (nat_abs z) 0) rest each
      where
        off : (q : ℕ) → n.ground_places ≤ q → (ltb q n.ground_places ≡ true) ⊎ (eqb (nat_abs (get_or ws q (pos 0))) 0 ≡ true) → nat_abs (get_or ws q (pos 0)) ≡ 0
        off q l (inl t) = absurd (omega (arith, ltb-true q n.ground_places t))
        off q l (inr t) = eqb-true (nat_abs (get_or ws q (pos 0))) 0 t

        each : (k : ℕ) (d : ℤ) → k < length rest → leb (nat_abs (get_or rest k d)) 0 ≡ true
        each k d l =
            let zero_there = off (g + k) (omega arith) (or_cases (ltb (g + k) n.ground_places) (eqb (nat_abs (get_or ws (g + k) (pos 0))) 0) (all_below_says (λ i. ltb i n.ground_places || eqb (nat_abs (get_or ws i (pos 0))) 0) most_all_places h (g + k) (omega (arith, long)))) in
            le-leb (nat_abs (get_or rest k d)) 0 (omega (arith, zero_there, ap nat_abs (read k d (omega (arith, long)))))

-- whether a rule can be typed, as the code asks it: x whether its numbers are small, z being its bound, and then y
module _ (n : Net) (r : Rule) (x : Bool) (z : ℤ) (same : z ≡ r.bound) (small : x ≡ in_range most_weight most_bound n r.weight z) where
  first : in_range most_weight most_bound n r.weight r.bound ≡ x
  first = sym (small ∙ ap (in_range most_weight most_bound n r.weight) same)

  pub typed_if : (y : Bool) → x ≡ true → y ≡ ground_only n r → y ≡ is_typed n r
  typed_if y e k = k ∙ sym (ap (λ b. b && ground_only n r) (first ∙ e))

  pub typed_not : x ≡ false → x ≡ is_typed n r
  typed_not e = e ∙ sym (and_left (in_range most_weight most_bound n r.weight r.bound) (ground_only n r) (first ∙ e))

-- the numbers of a rule that can be typed
module _ (n : Net) (ws : List ℤ) (b : ℤ) (size : length ws ≡ most_places) (typed : is_typed n (record { weight = λ p. get_or ws p (pos 0); bound = b }) ≡ true) where
  abbrev rule : Rule
  rule = record { weight = λ p. get_or ws p (pos 0); bound = b }

  small : in_range most_weight most_bound n rule.weight b ≡ true
  small = (and_parts (in_range most_weight most_bound n rule.weight b) (ground_only n rule) typed).0

  pub typed_on_ground : (q : ℕ) → n.ground_places ≤ q → get_or ws q (pos 0) ≡ pos 0
  typed_on_ground q h = elim (cases_lt q most_places) [
    | inl l ↦ off (or_cases (ltb q n.ground_places) (eqb (nat_abs (get_or ws q (pos 0))) 0) (all_below_says (λ i. ltb i n.ground_places || eqb (nat_abs (get_or ws i (pos 0))) 0) most_all_places
        (and_parts (in_range most_weight most_bound n rule.weight b) (ground_only n rule) typed).1 q (omega arith)))
    | inr l ↦ get_or_past ws q (pos 0) (omega arith)
  ]
    where
      off : (ltb q n.ground_places ≡ true) ⊎ (eqb (nat_abs (get_or ws q (pos 0))) 0 ≡ true) → get_or ws q (pos 0) ≡ pos 0
      off (inl t) = absurd (omega (arith, ltb-true q n.ground_places t))
      off (inr t) = none (get_or ws q (pos 0)) (eqb-true (nat_abs (get_or ws q (pos 0))) 0 t)

  pub typed_weights_small : (q : ℕ) → nat_abs (get_or ws q (pos 0)) ≤ most_worked_weight
  typed_weights_small q = elim (cases_lt q n.ground_places) [
    | inl l ↦ omega (arith, range_weights most_weight most_bound n rule.weight b small q l)
    | inr l ↦ rw (typed_on_ground q l) (omega arith)
  ]

  pub typed_bound_small : nat_abs b ≤ most_worked_bound
  typed_bound_small = omega (arith, range_bound most_weight most_bound n rule.weight b small)

  -- its bound as the code copies it: c
  pub typed_is : (c : ℤ) → c ≡ b → Ok (record { weight = λ p. get_or ws p (pos 0); bound = c; rounds = 0 }) ≡ before_rounds n rule
  typed_is c e = (λ i. Ok (record { weight = λ p. get_or ws p (pos 0); bound = e i; rounds = 0 })) ∙ sym (cond-true _ _ _ typed)

-- a check that refused: its test failed, and the fault is the one that it was given
pub refused_unless : (b : Bool) (f h : Fault) → Err h ≡ refuse_unless b f → (b ≡ false) × (h ≡ f)
refused_unless true f h e = let z : ◌≡◌ {A = ℕ} 0 1 = cc in absurd (omega arith)
refused_unless false f h e = (refl, cc)
