-- A row of the top layer that is set: what its acceptance says, and that the pile keeps the invariant.
use Rattle.std.proofs.Common.{◌≡◌, ℕ, ◌+◌, ◌<◌, ◌≤◌, true, false, cond, not, eqb, ltb, ◌⊎◌, List, ◌∷◌, ℤ, ◌-ℤ◌, ◌≤ℤ◌, Ok, Result, sym, refl, ap, ◌∙◌, subst, ap₂, inl, inr, arith, ltb-false, eq-eqb}
use mathlib.Core.Path.{fun_ext}
use mathlib.Core.List.Memᴰ
use mathlib.Core.List.{Memᴰ}
use Rattle.std.proofs.lemmas.Bool.{cond_both}
use lib.Signed.{le_z}
use borrow.Author.Tests.{not-true, both_ways}
use borrow.Author.Differences.{ints}
use Rattle.model.specs.declared.refusal.Refusal.TheVariants.{Shut, RowInUse, Broken}
use Rattle.model.specs.declared.fault.Fault.{Fault}
use Rattle.model.specs.Net.{Net, Ranges}
use Rattle.model.specs.Plant.{setting_fault, refuse_unless, ◌else_by◌}
use Rattle.model.specs.Rule.{Rule, Worked, raise, positive, negative, weighted_free}
use Rattle.model.specs.Working.{work}
use Rattle.model.specs.Layer.{Row, is_shut, masked_take, masked_give, ruled_row, holds_now, Top, plant, monitor, board, row_count, open_rows, Pile, pile_net, pile_free, row_place, with_rule, change_row, top_answer, InForce, in_force}
use Rattle.model.specs.Laws.{SameGround}
use Rattle.model.proofs.Checks.{else_ok, refuse_unless_ok}
use Rattle.model.proofs.Working.{same_raise, work_on_ground, work_quiets}
use Rattle.model.proofs.Setting.{raise_none, untaken, set_net, set_free}
use Rattle.model.proofs.Placing.{placed}
use Rattle.model.proofs.Layering.{open_net, net_opens, free_opens, layer_same, layer_weighted, changed_row}
use Rattle.model.proofs.Steady.{Steady, Shape}

-- ---- which rows are in use
used_more : (rows : ℕ → Row) (r : ℕ) (new : Row) (k : ℕ) → new.in_use ≡ true → (rows k).in_use ≡ true → (change_row rows r new k).in_use ≡ true
used_more rows r new k u e = cond_both (eqb k r) new (rows k) (λ x. x.in_use ≡ true) (λ q. u) (λ q. e)

settled_more : (p : Pile) (r : ℕ) (w : Worked) (i : InForce) → (i.place < p.below.places) ⊎ ((k : ℕ) × (i.place ≡ row_place p k) × ((p.rows k).in_use ≡ true)) →
    (i.place < p.below.places) ⊎ ((k : ℕ) × (i.place ≡ row_place p k) × (((with_rule p r w).rows k).in_use ≡ true))
settled_more p r w i (inl l) = inl l
settled_more p r w i (inr h) = inr (h.0, h.1, used_more p.rows r (ruled_row p.below p.below_free w) h.0 refl h.2)

settled_new : (p : Pile) (r : ℕ) (typed : Rule) (w : Worked) (rs : List InForce) → Shape p rs →
    (i : InForce) → (i ≡ in_force p r typed w) ⊎ Memᴰ i rs → (i.place < p.below.places) ⊎ ((k : ℕ) × (i.place ≡ row_place p k) × (((with_rule p r w).rows k).in_use ≡ true))
settled_new p r typed w rs h i (inl e) = inr (r, ap (λ (x : InForce). x.place) e, ap (λ b. (cond b (ruled_row p.below p.below_free w) (p.rows r)).in_use) (eq-eqb r r refl))
settled_new p r typed w rs h i (inr m) = settled_more p r w i (h.settled i m)

pub fresh_place : (p : Pile) (r : ℕ) (i : InForce) → (p.rows r).in_use ≡ false → (i.place < p.below.places) ⊎ ((k : ℕ) × (i.place ≡ row_place p k) × ((p.rows k).in_use ≡ true)) → i.place ≡ row_place p r → ⊥
fresh_place p r i u (inl l) e = omega arith
fresh_place p r i u (inr h) e =
    let q : h.0 ≡ r = omega (arith, h.1) in
    both_ways (p.rows r).in_use u (subst (λ (k : ℕ). (p.rows k).in_use ≡ true) q h.2)

-- ---- what a setting's acceptance says
pub record Setting (p : Pile) (r : ℕ) (typed : Rule) : Type 0 where
  pub open_layer : is_shut (row_count p.top) p.below ≡ false
  pub unused : (p.rows r).in_use ≡ false
  pub held_now : holds_now p.below p.below_free (work p.below typed) ≡ Ok tt

pub top_says : (p : Pile) (r : ℕ) (typed : Rule) → top_answer p r typed ≡ Ok tt → Setting p r typed
top_says p r typed e =
    let e₁ = else_ok (refuse_unless (not (is_shut (row_count p.top) p.below)) (setting_fault Shut)) (refuse_unless (not (p.rows r).in_use) (setting_fault RowInUse) else_by holds_now p.below p.below_free (work p.below typed)) e in
    let e₂ = else_ok (refuse_unless (not (p.rows r).in_use) (setting_fault RowInUse)) (holds_now p.below p.below_free (work p.below typed)) e₁.1 in
    record {
      open_layer = not-true (is_shut (row_count p.top) p.below) (refuse_unless_ok (not (is_shut (row_count p.top) p.below)) (setting_fault Shut) e₁.0);
      unused = not-true (p.rows r).in_use (refuse_unless_ok (not (p.rows r).in_use) (setting_fault RowInUse) e₂.0);
      held_now = e₂.1;
    }

pub now_says : (n : Net) (free : ℕ → ℕ) (w : Worked) → holds_now n free (Ok w) ≡ Ok tt → weighted_free n w.weight free ≤ℤ w.bound
now_says n free w e = omega (arith, ints, refuse_unless_ok (le_z (weighted_free n w.weight free) w.bound) (setting_fault Broken) e)

-- a row of a board that is there
pub open_row : (top : Top) (r : ℕ) → r < open_rows top → r < row_count top
open_row plant r l = l
open_row monitor r l = absurd (omega arith)
open_row board r l = l

module _ (p : Pile) (R : Ranges p.below) (r : ℕ) (here : r < row_count p.top) (typed : Rule) (w : Worked) (ok : top_answer p r typed ≡ Ok tt) (is : work p.below typed ≡ Ok w) where
  abbrev size : ℕ
  size = row_count p.top

  abbrev n : Net
  n = p.below

  abbrev c : ℕ
  c = row_place p r

  abbrev new : Row
  new = ruled_row p.below p.below_free w

  pub says : Setting p r typed
  says = top_says p r typed ok

  pub same_below : SameGround n (pile_net p)
  same_below = layer_same size n p.rows R.places_all

  pub worked_here : work (pile_net p) typed ≡ Ok w
  worked_here = work_on_ground n (pile_net p) same_below typed ∙ is

  pub weighs : weighted_free (pile_net p) w.weight (pile_free p) ≡ weighted_free n w.weight p.below_free
  weighs = layer_weighted size n p.rows p.below_free w.weight R.places_all

  pub fits_now : weighted_free (pile_net p) w.weight (pile_free p) ≤ℤ w.bound
  fits_now = subst (λ (x : ℤ). x ≤ℤ w.bound) (sym weighs) (now_says n p.below_free w (subst (λ (x : Result Worked Fault). holds_now n p.below_free x ≡ Ok tt) is says.held_now))

  raises : (t : ℕ) → raise (pile_net p) w.weight t ≡ raise n w.weight t
  raises t = same_raise n (pile_net p) same_below w.weight t

  -- the mask leaves the arcs of a worked rule as they are
  take_unmasked : (t : ℕ) → masked_take n new t ≡ positive (raise (pile_net p) w.weight t)
  take_unmasked t = cond_both (n.controllable t) (new.take t) 0 (λ x. x ≡ positive (raise n w.weight t)) (λ e. refl) (λ e. sym (untaken n w.weight R (work_quiets n typed w is) t e)) ∙ ap positive (sym (raises t))

  give_unmasked : (t : ℕ) → masked_give n new t ≡ negative (raise (pile_net p) w.weight t)
  give_unmasked t = cond_both (ltb t n.moves) (new.give t) 0 (λ x. x ≡ negative (raise n w.weight t)) (λ e. refl) (λ e. sym (ap negative (raise_none n w.weight R t (ltb-false t n.moves e)))) ∙ ap negative (sym (raises t))

  -- ---- a setting is a change of one place
  abbrev with_arcs : (ℕ → ℕ → ℕ) → (ℕ → ℕ → ℕ) → Net
  with_arcs take give = record { ground_places = n.ground_places; places = n.places + size; moves = n.moves; controllable = n.controllable; take = take; give = give; limit = (open_net size n p.rows).limit; layer = (open_net size n p.rows).layer; row = (open_net size n p.rows).row }

  take_set : (i t : ℕ) → (open_net size n (with_rule p r w).rows).take i t ≡ cond (eqb i c) (positive (raise (pile_net p) w.weight t)) ((open_net size n p.rows).take i t)
  take_set i t = changed_row (λ x. masked_take n x t) (n.take i t) n.places size p.rows r new i here
      ∙ ap (λ x. cond (eqb i c) x ((open_net size n p.rows).take i t)) (take_unmasked t)

  give_set : (i t : ℕ) → (open_net size n (with_rule p r w).rows).give i t ≡ cond (eqb i c) (negative (raise (pile_net p) w.weight t)) ((open_net size n p.rows).give i t)
  give_set i t = changed_row (λ x. masked_give n x t) (n.give i t) n.places size p.rows r new i here
      ∙ ap (λ x. cond (eqb i c) x ((open_net size n p.rows).give i t)) (give_unmasked t)

  -- the net k with the arcs of the rule at c, reckoned over the net m
  abbrev set_from : Net → Net → Net
  set_from m k = record {
    ground_places = k.ground_places;
    places = k.places;
    moves = k.moves;
    controllable = k.controllable;
    take = λ i t. cond (eqb i c) (positive (raise m w.weight t)) (k.take i t);
    give = λ i t. cond (eqb i c) (negative (raise m w.weight t)) (k.give i t);
    limit = k.limit;
    layer = k.layer;
    row = k.row;
  }

  pub net_set : pile_net (with_rule p r w) ≡ set_net (pile_net p) c w
  net_set = net_opens size n (with_rule p r w).rows says.open_layer
      ∙ ap₂ with_arcs (fun_ext (λ i. fun_ext (λ t. take_set i t))) (fun_ext (λ i. fun_ext (λ t. give_set i t)))
      ∙ ap (set_from (pile_net p)) (sym (net_opens size n p.rows says.open_layer))

  pub free_set : pile_free (with_rule p r w) ≡ set_free (pile_net p) (pile_free p) c w
  free_set = free_opens size n (with_rule p r w).rows p.below_free says.open_layer
      ∙ fun_ext (λ i. changed_row (λ x. x.free) (p.below_free i) n.places size p.rows r new i here
      ∙ ap₂ (λ x y. cond (eqb i c) (positive (w.bound -ℤ x)) y) (sym weighs) (ap (λ f. f i) (sym (free_opens size n p.rows p.below_free says.open_layer))))

  -- ---- the invariant
  module _ (g : ℕ → ℕ) (q : ℕ → ℤ) (rs : List InForce) (s : Steady (pile_net p) (pile_free p) g q rs) (h : Shape p rs) where
    spot : ((pile_net p).ground_places ≤ n.places) × (c < (pile_net p).places)
    spot = h.there r here says.open_layer

    pub set_low : (pile_net p).ground_places ≤ c
    set_low = omega (arith, spot.0)

    pub set_steady : ((t : ℕ) → g t ≡ 0) → Steady (pile_net (with_rule p r w)) (pile_free (with_rule p r w)) g q (in_force p r typed w ∷ rs)
    set_steady z = subst (λ (m : Net). Steady m (pile_free (with_rule p r w)) g q (in_force p r typed w ∷ rs)) (sym net_set)
        (subst (λ (f : ℕ → ℕ). Steady (set_net (pile_net p) c w) f g q (in_force p r typed w ∷ rs)) (sym free_set)
        (placed (pile_net p) (pile_free p) g q rs s z c typed w set_low spot.1 (λ i m. fresh_place p r i says.unused (h.settled i m))
        worked_here fits_now))

    pub set_shape : Shape (with_rule p r w) (in_force p r typed w ∷ rs)
    set_shape = record {
      based = h.based;
      there = λ k l e. subst (λ (m : Net). (m.ground_places ≤ n.places) × (row_place p k < m.places)) (sym net_set) (h.there k l e);
      settled = λ i m. settled_new p r typed w rs h i (Memᴰ.cases_cons m);
    }
