-- A row that is set keeps the invariant.
use Rattle.std.proofs.Common.{inl, inr, ◌≡◌, ℕ, zero, suc, ◌*◌, ◌<◌, ◌≤◌, false, cond, eqb, ℤ, pos, ◌-ℤ◌, ◌*ℤ◌, nat_abs, ◌≤ℤ◌, refl, ap, ◌∙◌, le_trans, mul-le-mul_right, arith, eq-eqb, ne_eqb, eqb-true}
use lib.IntN.{*ℤ-zero}
use Rattle.std.proofs.lemmas.Bool.{cases_lt, cond_both, eqb-false}
use Rattle.std.proofs.lemmas.Bool.Decides.{nat_tests}
use borrow.Author.Differences.{ints}
use Rattle.model.specs.Net.{Net, Ranges, signed_sum, incidence}
use Rattle.model.specs.Sizes.{most_places, most_arc, most_limit, most_control_arc, most_worked_weight}
use Rattle.model.specs.Rule.{Worked, raise, positive, negative, weighted, weighted_free}
use Rattle.model.specs.Laws.{SameGround}
use Rattle.model.proofs.Sums.{signed_sum_ext, signed_sum_abs, abs_mul_le}

-- ---- one place changed
pub pick : (P : ℕ → Type 0) (i c x y : ℕ) → (i ≡ c → P x) → ((i ≡ c → ⊥) → P y) → P (cond (eqb i c) x y)
pick P i c x y f g = cond_both (eqb i c) x y P (λ e. f (eqb-true i c e)) (λ e. g (eqb-false i c e))

pub pick_same : (c x y : ℕ) → cond (eqb c c) x y ≡ x
pick_same c x y = ap (λ b. cond b x y) (eq-eqb c c refl)

pub pick_other : (i c x y : ℕ) → (i ≡ c → ⊥) → cond (eqb i c) x y ≡ y
pick_other i c x y h = ap (λ b. cond b x y) (ne_eqb i c h)

-- ---- sizes
pub positive_le : (z : ℤ) → positive z ≤ nat_abs z
positive_le z = grind (arith, ints)

pub negative_le : (z : ℤ) → negative z ≤ nat_abs z
negative_le z = grind (arith, ints)

pub positive_none : (z : ℤ) → z ≤ℤ pos 0 → positive z ≡ 0
positive_none z h = grind (arith, ints)

pub raise_abs : (n : Net) (w : ℕ → ℤ) → Ranges n → ((p : ℕ) → p < n.ground_places → nat_abs (w p) ≤ most_worked_weight) → (t : ℕ) → nat_abs (raise n w t) ≤ most_control_arc
raise_abs n w R h t =
    le_trans
    (signed_sum_abs n.ground_places (most_worked_weight * most_arc) (λ p. w p *ℤ incidence n p t)
    (λ p l. abs_mul_le (w p) (incidence n p t) most_worked_weight most_arc (h p l) (omega (arith, ints, R.ground_arcs p t l))))
    (mul-le-mul_right (most_worked_weight * most_arc) R.ground_few)

-- the most that a worked rule can weigh a marking at
abbrev pub most_weighted : ℕ
most_weighted = most_places * (most_worked_weight * most_limit)

pub weighted_abs : (n : Net) (w q : ℕ → ℤ) → Ranges n → ((p : ℕ) → p < n.ground_places → nat_abs (w p) ≤ most_worked_weight) → ((p : ℕ) → p < n.ground_places → nat_abs (q p) ≤ most_limit) → nat_abs (weighted n w q) ≤ most_weighted
weighted_abs n w q R h k =
    le_trans
    (signed_sum_abs n.ground_places (most_worked_weight * most_limit) (λ p. w p *ℤ q p) (λ p l. abs_mul_le (w p) (q p) most_worked_weight most_limit (h p l) (k p l)))
    (mul-le-mul_right (most_worked_weight * most_limit) R.ground_few)

pub signed_sum_none : (k : ℕ) (f : ℕ → ℤ) → ((i : ℕ) → i < k → f i ≡ pos 0) → signed_sum k f ≡ pos 0
signed_sum_none zero f h = refl
signed_sum_none (suc k) f h = omega (arith, ints, signed_sum_none k f (λ i l. h i (omega arith)), h k (omega arith))

pub no_incidence : (n : Net) → Ranges n → (p t : ℕ) → n.moves ≤ t → incidence n p t ≡ pos 0
no_incidence n R p t l = omega (arith, ints, R.no_move p t l)

pub raise_none : (n : Net) (w : ℕ → ℤ) → Ranges n → (t : ℕ) → n.moves ≤ t → raise n w t ≡ pos 0
raise_none n w R t l = signed_sum_none n.ground_places (λ p. w p *ℤ incidence n p t)
    (λ p h. ap (λ d. w p *ℤ d) (no_incidence n R p t l) ∙ *ℤ-zero (w p))

-- an uncontrollable move that does not raise a rule takes nothing for it
pub untaken : (n : Net) (w : ℕ → ℤ) → Ranges n → ((t : ℕ) → t < n.moves → n.controllable t ≡ false → raise n w t ≤ℤ pos 0) → (t : ℕ) → n.controllable t ≡ false → positive (raise n w t) ≡ 0
untaken n w R no_rise t e = elim (cases_lt t n.moves) [
  | inl k ↦ positive_none (raise n w t) (no_rise t k e)
  | inr k ↦ ap positive (raise_none n w R t k)
]

-- ---- the net and the tokens after the setting
abbrev pub set_net : Net → ℕ → Worked → Net
set_net n c w = record {
  ground_places = n.ground_places;
  places = n.places;
  moves = n.moves;
  controllable = n.controllable;
  take = λ i t. cond (eqb i c) (positive (raise n w.weight t)) (n.take i t);
  give = λ i t. cond (eqb i c) (negative (raise n w.weight t)) (n.give i t);
  limit = n.limit;
  layer = n.layer;
  row = n.row;
}

abbrev pub set_free : Net → (ℕ → ℕ) → ℕ → Worked → ℕ → ℕ
set_free n free c w i = cond (eqb i c) (positive (w.bound -ℤ weighted_free n w.weight free)) (free i)

module _ (n : Net) (c : ℕ) (w : Worked) (low : n.ground_places ≤ c) where
  set_change : (p t : ℕ) → p < n.ground_places → incidence (set_net n c w) p t ≡ incidence n p t
  set_change p t l = ap (λ b. pos (cond b (negative (raise n w.weight t)) (n.give p t)) -ℤ pos (cond b (positive (raise n w.weight t)) (n.take p t))) (ne_eqb p c (λ e. omega arith))

  pub set_raise : (l : ℕ → ℤ) (t : ℕ) → raise (set_net n c w) l t ≡ raise n l t
  set_raise l t = signed_sum_ext n.ground_places (λ p. l p *ℤ incidence (set_net n c w) p t) (λ p. l p *ℤ incidence n p t) (λ p h. ap (λ d. l p *ℤ d) (set_change p t h))

  pub set_same : SameGround n (set_net n c w)
  set_same = record {
    same_ground = refl;
    same_moves = refl;
    same_controllable = λ t. refl;
    same_take = λ p t l. pick_other p c (positive (raise n w.weight t)) (n.take p t) (λ e. omega arith);
    same_give = λ p t l. pick_other p c (negative (raise n w.weight t)) (n.give p t) (λ e. omega arith);
  }

  module _ (R : Ranges n) (high : c < n.places) (small : (p : ℕ) → p < n.ground_places → nat_abs (w.weight p) ≤ most_worked_weight)
      (no_rise : (t : ℕ) → t < n.moves → n.controllable t ≡ false → raise n w.weight t ≤ℤ pos 0) where
    arc_take : (t : ℕ) → positive (raise n w.weight t) ≤ most_control_arc
    arc_take t = le_trans (positive_le (raise n w.weight t)) (raise_abs n w.weight R small t)

    arc_give : (t : ℕ) → negative (raise n w.weight t) ≤ most_control_arc
    arc_give t = le_trans (negative_le (raise n w.weight t)) (raise_abs n w.weight R small t)

    pub set_ranges : Ranges (set_net n c w)
    set_ranges = record {
      ground_some = R.ground_some;
      ground_few = R.ground_few;
      places_all = R.places_all;
      places_few = R.places_few;
      moves_some = R.moves_some;
      moves_few = R.moves_few;
      ground_arcs = λ p t l. grind (arith, nat_tests, R.ground_arcs p t l);
      ground_limit = R.ground_limit;
      ground_plain = R.ground_plain;
      control_arcs = λ p t l. grind (arith, nat_tests, R.control_arcs p t l, arc_take t, arc_give t);
      control_limited = R.control_limited;
      control_free = λ p t l e. grind (arith, nat_tests, R.control_free p t l e, untaken n w.weight R no_rise t e);
      no_place = λ p t l. grind (arith, nat_tests, R.no_place p t l);
      no_move = λ p t l. grind (arith, nat_tests, R.no_move p t l, ap positive (raise_none n w.weight R t l), ap negative (raise_none n w.weight R t l));
    }
