-- The rule after a round is the one that is meant.
use Rattle.std.proofs.Common.{◌≡◌, ℕ, ◌+◌, ◌≤◌, Bool, true, false, cond, eqb, List, get_or, ℤ, pos, ◌+ℤ◌, ◌-ℤ◌, ◌*ℤ◌, nat_abs, Ok, Err, sym, ap, ◌∙◌, ap₂, inl, inr, add-one, arith, w32, SFits, to_z, of_z}
use Rattle.std.proofs.lemmas.Int.{ints, to_z-of_z}
use Rattle.std.proofs.lemmas.Bool.{cond-true, cond-false, cases_lt, ne_eqb}
use Rattle.model.specs.declared.refusal.Refusal.TheVariants.{TooLarge}
use Rattle.model.specs.declared.fault.Fault.{Fault}
use Rattle.model.specs.Sizes.{most_worked_weight, most_worked_bound}
use Rattle.model.specs.Net.{Net}
use Rattle.model.specs.Plant.{setting_fault, refuse_unless}
use Rattle.model.specs.Rule.{Worked, in_range}
use Rattle.model.specs.Working.{changed, fits}
use Rattle.model.proofs.Working.{range_weights, range_bound}
use Rattle.rules.specs.Rounding.{Change, absorption_of, after_round, RoundAt}
use Rattle.rules.proofs.Absorbing.{place_in}
use Rattle.rules.proofs.Testing.{refused_unless}

-- no place beyond the ground places comes to weigh
pub changed_on_ground : {n : Net} {w : Worked} {t p : ℕ} → RoundAt n w t p → (q : ℕ) → n.ground_places ≤ q → (changed n w t p).weight q ≡ pos 0
changed_on_ground {n} {w} {t} {p} due q l =
    let x : Change = absorption_of n w t p in
    let other : eqb q p ≡ false = ne_eqb q p (λ e. omega (arith, place_in due)) in
    ap₂ (λ z b. x.factor *ℤ z +ℤ cond b x.addend (pos 0)) (due.on_ground q l) other ∙ none x.factor
  where
    none : (z : ℤ) → z *ℤ pos 0 +ℤ pos 0 ≡ pos 0
    none z = omega (arith, ints)

-- as the code has them: ws and b are the weights and the bound after the round, and fit says whether they are small
pub record Outcome (n : Net) (w : Worked) (t p : ℕ) (ws : List ℤ) (b : ℤ) (fit : Bool) : Type 0 where
  pub round : Change
  pub round_is : round ≡ absorption_of n w t p
  pub ws_are : (q : ℕ) → get_or ws q (pos 0) ≡ round.factor *ℤ w.weight q +ℤ cond (eqb q round.place) round.addend (pos 0)
  pub b_is : b ≡ round.factor *ℤ (w.bound +ℤ pos 1) -ℤ pos 1
  pub fit_is : fit ≡ in_range most_worked_weight most_worked_bound n (λ q. get_or ws q (pos 0)) b

-- r is the bound before it is stored
pub outcome : (n : Net) (w : Worked) (t p : ℕ) (x : Change) → x ≡ absorption_of n w t p
    → (ws : List ℤ) → ((q : ℕ) → get_or ws q (pos 0) ≡ x.factor *ℤ w.weight q +ℤ cond (eqb q x.place) x.addend (pos 0))
    → (r : ℤ) → SFits w32 r → r ≡ x.factor *ℤ (w.bound +ℤ pos 1) -ℤ pos 1
    → (fit : Bool) → fit ≡ in_range most_worked_weight most_worked_bound n (λ q. get_or ws q (pos 0)) (to_z w32 (of_z w32 r))
    → Outcome n w t p ws (to_z w32 (of_z w32 r)) fit
outcome n w t p x x_is ws ws_are r fits r_is fit fit_is = record { round = x; round_is = x_is; ws_are = ws_are; b_is = to_z-of_z w32 r fits ∙ r_is; fit_is = fit_is }

module _ {n : Net} {w : Worked} {t p : ℕ} (due : RoundAt n w t p) {ws : List ℤ} {b : ℤ} {fit : Bool} (o : Outcome n w t p ws b fit) where
  weight_is : (q : ℕ) → get_or ws q (pos 0) ≡ (changed n w t p).weight q
  weight_is q = o.ws_are q ∙ ap (λ y. y.factor *ℤ w.weight q +ℤ cond (eqb q y.place) y.addend (pos 0)) o.round_is

  bound_is : b ≡ (changed n w t p).bound
  bound_is = o.b_is ∙ ap (λ y. y.factor *ℤ (w.bound +ℤ pos 1) -ℤ pos 1) o.round_is

  fits_is : fits n (changed n w t p) ≡ fit
  fits_is = sym (o.fit_is ∙ (λ i. in_range most_worked_weight most_worked_bound n (λ q. weight_is q i) (bound_is i)))

  pub too_large : (f : Fault) → f ≡ setting_fault TooLarge → (h : Fault) → Err h ≡ refuse_unless fit f → Err h ≡ after_round n w t p
  too_large f e h shut = let k = refused_unless fit f h shut in ap Err (k.1 ∙ e) ∙ sym (cond-false _ _ _ (fits_is ∙ k.0))

  pub is_changed : (k : ℕ) → k ≡ w.rounds + 1 → fit ≡ true → Ok (record { weight = λ q. get_or ws q (pos 0); bound = b; rounds = k }) ≡ after_round n w t p
  is_changed k e small = (λ i. Ok (record { weight = λ q. weight_is q i; bound = bound_is i; rounds = (e ∙ add-one w.rounds) i })) ∙ sym (cond-true _ _ _ (fits_is ∙ small))

  pub weights_small : fit ≡ true → (q : ℕ) → nat_abs (get_or ws q (pos 0)) ≤ most_worked_weight
  weights_small small q = elim (cases_lt q n.ground_places) [
    | inl l ↦ range_weights most_worked_weight most_worked_bound n (λ i. get_or ws i (pos 0)) b (sym o.fit_is ∙ small) q l
    | inr l ↦ rw (weight_is q ∙ changed_on_ground due q l) (omega arith)
  ]

  pub bound_small : fit ≡ true → nat_abs b ≤ most_worked_bound
  bound_small small = range_bound most_worked_weight most_worked_bound n (λ i. get_or ws i (pos 0)) b (sym o.fit_is ∙ small)
