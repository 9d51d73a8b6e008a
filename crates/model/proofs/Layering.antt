-- The net and the tokens of a layer: the ground part is as below, the ranges are kept, and a row that is set changes one place.
use Rattle.std.proofs.Common.{◌≡◌, ℕ, ◌+◌, ◌-◌, ◌<◌, ◌≤◌, Bool, true, false, cond, not, ◌&&◌, eqb, ltb, leb, ◌⊎◌, ℤ, pos, ◌*ℤ◌, refl, ap, ◌∙◌, inl, inr, le_trans, arith, ltb-false, ltb-true, leb-false, leb-true}
use mathlib.Core.Path.{fun_ext}
use Rattle.std.proofs.lemmas.Bool.{and_parts, and_cases, or_parts, cond_both}
use Rattle.std.proofs.lemmas.Bool.Decides.{nat_tests}
use Rattle.model.specs.Sizes.{most_control_arc, control_limit, most_all_places}
use Rattle.model.specs.Net.{Net, Ranges, signed_sum}
use Rattle.model.specs.Rule.{weighted_free}
use Rattle.model.specs.Layer.{Row, is_shut, own_place, next_layer, masked_take, masked_give, layer_net, layer_free, change_row}
use Rattle.model.specs.Laws.{SameGround}
use Rattle.model.proofs.Sums.{signed_sum_ext}

pub same_refl : (n : Net) → SameGround n n
same_refl n = record { same_ground = refl; same_moves = refl; same_controllable = λ t. refl; same_take = λ p t l. refl; same_give = λ p t l. refl }

-- a test on a stretch of places
pub stretch : (P : ℕ → Type 0) (a b i x y : ℕ) → (a ≤ i → i < b → P x) → ((i < a) ⊎ (b ≤ i) → P y) → P (cond (leb a i && ltb i b) x y)
stretch P a b i x y f g = cond_both (leb a i && ltb i b) x y P
    (λ e. let h = and_parts (leb a i) (ltb i b) e in f (leb-true a i h.0) (ltb-true i b h.1))
    (λ e. g (elim (and_cases (leb a i) (ltb i b) e) [ inl h ↦ inl (leb-false a i h) | inr h ↦ inr (ltb-false i b h) ]))

pub own_row : (a s k : ℕ) → k < s → leb a (a + k) && ltb (a + k) (a + s) ≡ true
own_row a s k l = grind (arith, nat_tests)

pub not_own : (a s i : ℕ) → i < a → leb a i && ltb i (a + s) ≡ false
not_own a s i l = grind (arith, nat_tests)

pub not_shut : (size : ℕ) (n : Net) → is_shut size n ≡ false → n.places + size ≤ most_all_places
not_shut size n e = ltb-false most_all_places (n.places + size) (or_parts (eqb size 0) (ltb most_all_places (n.places + size)) e).1

-- ---- a layer that is not shut
abbrev pub open_net : ℕ → Net → (ℕ → Row) → Net
open_net size n rows = record {
  ground_places = n.ground_places;
  places = n.places + size;
  moves = n.moves;
  controllable = n.controllable;
  take = λ p t. cond (own_place size n p) (masked_take n (rows (p - n.places)) t) (n.take p t);
  give = λ p t. cond (own_place size n p) (masked_give n (rows (p - n.places)) t) (n.give p t);
  limit = λ p. cond (own_place size n p) control_limit (n.limit p);
  layer = λ p. cond (own_place size n p) (next_layer n.places n.layer) (n.layer p);
  row = λ p. cond (own_place size n p) (p - n.places) (n.row p);
}

abbrev pub open_free : ℕ → Net → (ℕ → ℕ) → (ℕ → Row) → ℕ → ℕ
open_free size n free rows i = cond (own_place size n i) (rows (i - n.places)).free (free i)

module _ (size : ℕ) (n : Net) (rows : ℕ → Row) where
  pub net_opens : is_shut size n ≡ false → layer_net size n rows ≡ open_net size n rows
  net_opens e = ap (λ b. cond b n (open_net size n rows)) e

  pub net_shuts : is_shut size n ≡ true → layer_net size n rows ≡ n
  net_shuts e = ap (λ b. cond b n (open_net size n rows)) e

  pub free_opens : (free : ℕ → ℕ) → is_shut size n ≡ false → layer_free size n free rows ≡ open_free size n free rows
  free_opens free e = fun_ext (λ i. ap (λ b. cond (not b && own_place size n i) (rows (i - n.places)).free (free i)) e)

  pub free_shuts : (free : ℕ → ℕ) → is_shut size n ≡ true → layer_free size n free rows ≡ free
  free_shuts free e = fun_ext (λ i. ap (λ b. cond (not b && own_place size n i) (rows (i - n.places)).free (free i)) e)

  -- ---- the ground part
  open_same : n.ground_places ≤ n.places → SameGround n (open_net size n rows)
  open_same h = record {
    same_ground = refl;
    same_moves = refl;
    same_controllable = λ t. refl;
    same_take = λ p t l. ap (λ b. cond b (masked_take n (rows (p - n.places)) t) (n.take p t)) (not_own n.places size p (le_trans l h));
    same_give = λ p t l. ap (λ b. cond b (masked_give n (rows (p - n.places)) t) (n.give p t)) (not_own n.places size p (le_trans l h));
  }

  pub layer_same : n.ground_places ≤ n.places → SameGround n (layer_net size n rows)
  layer_same h = go (is_shut size n)
    where
      go : (b : Bool) → SameGround n (cond b n (open_net size n rows))
      go true = same_refl n
      go false = open_same h

  pub free_below : (free : ℕ → ℕ) (i : ℕ) → i < n.places → layer_free size n free rows i ≡ free i
  free_below free i l = go (is_shut size n)
    where
      go : (b : Bool) → cond (not b && own_place size n i) (rows (i - n.places)).free (free i) ≡ free i
      go true = refl
      go false = ap (λ b. cond b (rows (i - n.places)).free (free i)) (not_own n.places size i l)

  pub layer_weighted : (free : ℕ → ℕ) (l : ℕ → ℤ) → n.ground_places ≤ n.places → weighted_free (layer_net size n rows) l (layer_free size n free rows) ≡ weighted_free n l free
  layer_weighted free l h = ap (λ g. signed_sum g (λ i. l i *ℤ pos (layer_free size n free rows i))) (layer_same h).same_ground
      ∙ signed_sum_ext n.ground_places (λ i. l i *ℤ pos (layer_free size n free rows i)) (λ i. l i *ℤ pos (free i)) (λ i k. ap (λ x. l i *ℤ pos x) (free_below free i (le_trans k h)))

  -- ---- the ranges, whatever the rows hold, if only their arcs are small
  module _ (R : Ranges n) (small : (r t : ℕ) → r < size → ((rows r).take t ≤ most_control_arc) × ((rows r).give t ≤ most_control_arc)) where
    pub open_ranges : n.places + size ≤ most_all_places → Ranges (open_net size n rows)
    open_ranges few = record {
      ground_some = R.ground_some;
      ground_few = R.ground_few;
      places_all = omega (arith, R.places_all);
      places_few = few;
      moves_some = R.moves_some;
      moves_few = R.moves_few;
      ground_arcs = λ p t l. grind (arith, nat_tests, R.ground_arcs p t l, R.places_all);
      ground_limit = λ p l. grind (arith, nat_tests, R.ground_limit p l, R.places_all);
      ground_plain = λ p l. grind (arith, nat_tests, R.ground_plain p l, R.places_all);
      control_arcs = λ p t l. grind (arith, nat_tests, R.control_arcs p t l, small (p - n.places) t);
      control_limited = λ p l m. grind (arith, nat_tests, R.control_limited p l);
      control_free = λ p t l e. grind (arith, nat_tests, R.control_free p t l e);
      no_place = λ p t l. grind (arith, nat_tests, R.no_place p t);
      no_move = λ p t l. grind (arith, nat_tests, R.no_move p t l);
    }

    pub layer_ranges : Ranges (layer_net size n rows)
    layer_ranges = go (is_shut size n) refl
      where
        go : (b : Bool) → is_shut size n ≡ b → Ranges (cond b n (open_net size n rows))
        go true e = R
        go false e = open_ranges (not_shut size n e)

-- ---- one row changed: a number that a row gives to its place changes at that place alone
pub changed_row : (f : Row → ℕ) (base a size : ℕ) (rows : ℕ → Row) (r : ℕ) (new : Row) (i : ℕ) → r < size →
    cond (leb a i && ltb i (a + size)) (f (change_row rows r new (i - a))) base ≡ cond (eqb i (a + r)) (f new) (cond (leb a i && ltb i (a + size)) (f (rows (i - a))) base)
changed_row f base a size rows r new i l = grind (arith, nat_tests)
