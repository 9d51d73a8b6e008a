-- The numbers of a round, and the weights and the bound after it.
use Rattle.std.proofs.Common.{◌≡◌, ℕ, ◌+◌, ◌-◌, ◌*◌, ◌/◌, ◌^◌, ◌<◌, ◌≤◌, Bool, true, false, cond, not, T, eqb, List, length, get_or, set, ℤ, pos, negsuc, ◌+ℤ◌, ◌-ℤ◌, ◌*ℤ◌, nat_abs, sym, refl, ap, ◌∙◌, ap₂, div-le_self, arith, w32, Fits, SFits, to_z, of_z}
use lib.Signed.{lt_z, non_neg}
use Rattle.std.proofs.lemmas.List.{get_or-set_same, get_or-set_other}
use Rattle.std.proofs.lemmas.Int.{ints, to_z_pos, to_z-of_z}
use Rattle.std.proofs.lemmas.Bool.{and_parts, ltb-true, eqb-true, eqb-false}
use Rattle.model.specs.Sizes.{most_places, most_arc, most_worked_weight, most_worked_bound}
use Rattle.model.specs.Net.{Net, Ranges, incidence}
use Rattle.model.specs.Rule.{Worked, raise, positive}
use Rattle.model.specs.Working.{divisor, rising, falls}
use Rattle.model.proofs.Sums.{abs_mul_le}
use Rattle.model.proofs.Checks.{lowest_some}
use Rattle.rules.specs.Divisors.{GreatestDivisor}
use Rattle.rules.specs.Rounding.{Change, absorption_of, Modest, RoundAt}
use Rattle.rules.proofs.Remainders.{greatest_some, greatest_is}
use Rattle.rules.proofs.Terms.{most_term, product_fits, incidence_small, sum_small}

positive_is : (z : ℤ) → lt_z (pos 0) z ≡ true → z ≡ pos (positive z)
positive_is (pos n) e = refl
positive_is (negsuc n) e = absurd (omega (arith, ints))

-- ---- the numbers of a round
pub place_in : {n : Net} {w : Worked} {t p : ℕ} → RoundAt n w t p → p < n.ground_places
place_in {n} {w} {t} {p} due = (lowest_some (falls n t) n.ground_places p due.place_is).1

pub fall_some : {n : Net} {w : Worked} {t p : ℕ} → RoundAt n w t p → n.give p t < n.take p t
fall_some {n} {w} {t} {p} due = ltb-true (n.give p t) (n.take p t) (lowest_some (falls n t) n.ground_places p due.place_is).0

-- as the code has them: a is the raise, e the fall and h their greatest common divisor
pub record Reckoned (n : Net) (w : Worked) (t p a e h : ℕ) : Type 0 where
  pub a_is : a ≡ positive (raise n w.weight t)
  pub e_is : e ≡ n.take p t - n.give p t
  pub gcd : GreatestDivisor a e h

module _ {n : Net} (s : Ranges n) {w : Worked} (weights : (p : ℕ) → nat_abs (w.weight p) ≤ most_worked_weight) {t p : ℕ} (due : RoundAt n w t p) where
  raise_is : raise n w.weight t ≡ pos (positive (raise n w.weight t))
  raise_is = positive_is (raise n w.weight t)
      (and_parts (not (n.controllable t)) (lt_z (pos 0) (raise n w.weight t)) (lowest_some (rising n w) n.moves t due.move_is).0).1

  raise_few : nat_abs (raise n w.weight t) ≤ most_places * most_term
  raise_few = sum_small w.weight (λ q. incidence n q t) weights n.ground_places s.ground_few (λ q l. omega (arith, incidence_small n s q t l)) n.ground_places (omega arith)

  -- the raise as the code reads and casts it
  module _ (r : ℤ) (r_is : r ≡ raise n w.weight t) where
    read_is : to_z w32 (of_z w32 r) ≡ pos (positive (raise n w.weight t))
    read_is = kept r (rw r_is raise_few) ∙ r_is ∙ raise_is
      where
        kept : (z : ℤ) → nat_abs z ≤ most_places * most_term → to_z w32 (of_z w32 z) ≡ z
        kept z h = omega (arith, ints)

    pub cast_is : nat_abs (to_z w32 (of_z w32 r)) ≡ positive (raise n w.weight t)
    cast_is = ap nat_abs read_is

    pub cast_fits : T (non_neg (to_z w32 (of_z w32 r))) × Fits w32 (nat_abs (to_z w32 (of_z w32 r)))
    cast_fits = fits (to_z w32 (of_z w32 r)) (positive (raise n w.weight t)) read_is (rw (sym (ap nat_abs raise_is)) raise_few)
      where
        fits : (z : ℤ) (a : ℕ) → z ≡ pos a → a ≤ most_places * most_term → T (non_neg z) × Fits w32 (nat_abs z)
        fits z a e l = rw e (tt, omega arith)

  module _ {a e h : ℕ} (k : Reckoned n w t p a e h) where
    e_some : 1 ≤ e
    e_some = omega (arith, fall_some due, k.e_is)

    e_small : e ≤ most_arc
    e_small = omega (arith, (s.ground_arcs p t (place_in due)).0, k.e_is)

    a_small : a ≤ most_places * most_term
    a_small = few a (raise n w.weight t) (k.a_is ∙ sym (ap nat_abs raise_is)) raise_few
      where
        few : (b : ℕ) (z : ℤ) → b ≡ nat_abs z → nat_abs z ≤ most_places * most_term → b ≤ most_places * most_term
        few b z same l = rw same l

    h_is : h ≡ divisor (n.take p t - n.give p t) (positive (raise n w.weight t)) (n.take p t - n.give p t)
    h_is = greatest_is e_some k.gcd ∙ ap₂ (λ i j. divisor j i j) k.a_is k.e_is

    factor_low : e / h ≤ most_arc
    factor_low = omega (arith, div-le_self e h, e_small)

    addend_low : a / h ≤ most_places * most_term
    addend_low = omega (arith, div-le_self a h, a_small)

    pub h_some : 0 < h
    h_some = greatest_some e_some k.gcd

    coded : (b m : ℕ) → b ≤ m → m < 2 ^ 31 → to_z w32 b ≡ pos b
    coded b m l r = to_z_pos w32 b (omega arith)

    pub addend_fits : SFits w32 (pos (a / h))
    addend_fits = fits (a / h) addend_low
      where
        fits : (b : ℕ) → b ≤ most_places * most_term → SFits w32 (pos b)
        fits b l = omega (arith, ints)

    factor_is : to_z w32 (e / h) ≡ pos ((n.take p t - n.give p t) / divisor (n.take p t - n.give p t) (positive (raise n w.weight t)) (n.take p t - n.give p t))
    factor_is = coded (e / h) most_arc factor_low (omega arith) ∙ ap₂ (λ i j. pos (i / j)) k.e_is h_is

    addend_is : to_z w32 (a / h) ≡ pos (positive (raise n w.weight t) / divisor (n.take p t - n.give p t) (positive (raise n w.weight t)) (n.take p t - n.give p t))
    addend_is = coded (a / h) (most_places * most_term) addend_low (omega arith) ∙ ap₂ (λ i j. pos (i / j)) k.a_is h_is

    pub round_is : ◌≡◌ {A = Change} (record { place = p; factor = to_z w32 (e / h); addend = to_z w32 (a / h) }) (absorption_of n w t p)
    round_is = λ i. record { place = p; factor = factor_is i; addend = addend_is i }

    pub round_modest : Modest (record { place = p; factor = to_z w32 (e / h); addend = to_z w32 (a / h) })
    round_modest = record {
      place_in = omega (arith, place_in due, s.ground_few);
      factor_small = size (e / h) most_arc factor_low (omega arith);
      addend_small = size (a / h) (most_places * most_term) addend_low (omega arith);
    }
      where
        size : (b m : ℕ) → b ≤ m → m < 2 ^ 31 → nat_abs (to_z w32 b) ≤ m
        size b m l r = omega (arith, ints, coded b m l r)

-- ---- the weights
pub factor_kept : (z : ℤ) → nat_abs z ≤ most_arc → to_z w32 (of_z w32 z) ≡ z
factor_kept z h = omega (arith, ints)

pub times_none : (z : ℤ) → z *ℤ pos 0 ≡ pos 0
times_none z = omega (arith, ints)

-- a weight times the factor
pub scaled_fits : (f b : ℤ) → nat_abs f ≤ most_arc → nat_abs b ≤ most_worked_weight → SFits w32 (f *ℤ b)
scaled_fits f b h k = product_fits f b most_arc most_worked_weight (omega arith) h k

pub scaled_is : (f b : ℤ) → nat_abs f ≤ most_arc → nat_abs b ≤ most_worked_weight → to_z w32 (of_z w32 (to_z w32 (of_z w32 f) *ℤ to_z w32 (of_z w32 b))) ≡ f *ℤ b
scaled_is f b h k =
    let j : to_z w32 (of_z w32 b) ≡ b = omega (arith, ints, k) in
    rw (factor_kept f h, j) (to_z-of_z w32 (f *ℤ b) (scaled_fits f b h k))

-- the addend at its place
pub one_added : (xs : List ℤ) (i : ℕ) (v a : ℤ) (f : ℕ → ℤ) → i < length xs → ((p : ℕ) → get_or xs p (pos 0) ≡ f p) → v ≡ f i +ℤ a
    → (p : ℕ) → get_or (set xs i v) p (pos 0) ≡ f p +ℤ cond (eqb p i) a (pos 0)
one_added xs i v a f l same here p = go (eqb p i) refl
  where
    plain : (x : ℤ) → x ≡ x +ℤ pos 0
    plain x = omega (arith, ints)

    go : (b : Bool) → eqb p i ≡ b → get_or (set xs i v) p (pos 0) ≡ f p +ℤ cond b a (pos 0)
    go true e = let q : p ≡ i = eqb-true p i e in
        ap (λ k. get_or (set xs i v) k (pos 0)) q ∙ get_or-set_same xs i v (pos 0) l ∙ here ∙ ap (λ k. f k +ℤ a) (sym q)
    go false e = get_or-set_other xs i p v (pos 0) (eqb-false p i e) ∙ same p ∙ plain (f p)

-- ---- the bound, as the code has it
module _ (f b : ℤ) (factor : nat_abs f ≤ most_arc) (bound : nat_abs b ≤ most_worked_bound) where
  past_is : to_z w32 (of_z w32 (to_z w32 (of_z w32 b) +ℤ pos 1)) ≡ b +ℤ pos 1
  past_is = omega (arith, ints, bound)

  past : nat_abs (b +ℤ pos 1) ≤ most_worked_bound + 1
  past = omega (arith, ints, bound)

  pub bound_is : to_z w32 (of_z w32 (to_z w32 (of_z w32 (to_z w32 (of_z w32 f) *ℤ to_z w32 (of_z w32 (to_z w32 (of_z w32 b) +ℤ pos 1)))) -ℤ pos 1)) ≡ f *ℤ (b +ℤ pos 1) -ℤ pos 1
  bound_is = rw (factor_kept f factor, past_is) (same (f *ℤ (b +ℤ pos 1)) (abs_mul_le f (b +ℤ pos 1) most_arc (most_worked_bound + 1) factor past))
    where
      same : (z : ℤ) → nat_abs z ≤ most_arc * (most_worked_bound + 1) → to_z w32 (of_z w32 (to_z w32 (of_z w32 z) -ℤ pos 1)) ≡ z -ℤ pos 1
      same z h = omega (arith, ints)

-- ---- the weight that is added to: x is its product
module _ (f b x a : ℤ) (factor : nat_abs f ≤ most_arc) (weight : nat_abs b ≤ most_worked_weight) (is : x ≡ f *ℤ b) (few : nat_abs a ≤ most_places * most_term) where
  weight_size : nat_abs x ≤ most_arc * most_worked_weight
  weight_size = rw is (abs_mul_le f b most_arc most_worked_weight factor weight)

  pub weight_fits : SFits w32 (to_z w32 (of_z w32 x) +ℤ to_z w32 (of_z w32 a))
  weight_fits = fits x a weight_size few
    where
      fits : (y z : ℤ) → nat_abs y ≤ most_arc * most_worked_weight → nat_abs z ≤ most_places * most_term → SFits w32 (to_z w32 (of_z w32 y) +ℤ to_z w32 (of_z w32 z))
      fits y z h k = omega (arith, ints)

  pub weight_is : to_z w32 (of_z w32 (to_z w32 (of_z w32 x) +ℤ to_z w32 (of_z w32 a))) ≡ f *ℤ b +ℤ a
  weight_is = same x a weight_size few ∙ ap (λ z. z +ℤ a) is
    where
      same : (y z : ℤ) → nat_abs y ≤ most_arc * most_worked_weight → nat_abs z ≤ most_places * most_term → to_z w32 (of_z w32 (to_z w32 (of_z w32 y) +ℤ to_z w32 (of_z w32 z))) ≡ y +ℤ z
      same y z h k = omega (arith, ints)
