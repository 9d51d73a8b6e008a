-- A built pile keeps the invariant.
use Rattle.std.proofs.Common.{◌≡◌, ℕ, ◌+◌, ◌-◌, ◌<◌, ◌≤◌, max, Bool, true, false, cond, ◌&&◌, ltb, leb, ◌⊎◌, List, [], ◌∷◌, ℤ, pos, ◌-ℤ◌, Ok, sym, refl, ap, ◌∙◌, subst, ap₂, inl, inr, zero-le, le_trans, arith, ltb-true}
use mathlib.Core.Path.{fun_ext}
use Rattle.std.proofs.lemmas.Bool.Decides.{nat_tests}
use mathlib.Core.List.Memᴰ
use Rattle.model.specs.declared.refusal.Refusal.TheVariants.{NoRow}
use Rattle.model.specs.Sizes.{control_limit, most_all_places}
use Rattle.model.specs.Net.{Net, Ranges}
use Rattle.model.specs.Plant.{setting_fault, refuse_unless}
use Rattle.model.specs.Rule.{Rule, Worked, positive, weighted_free}
use Rattle.model.specs.Working.{work}
use Rattle.model.specs.Layer.{blank, is_shut, next_layer, Top, monitor, board, row_count, open_rows, Pile, pile_net, pile_free, plant_alone, with_layer, row_place, with_rule, top_answer, board_answer, InForce, in_force, Built, bare, monitored, boarded, monitor_set, board_set}
use Rattle.model.specs.Ledger.{reserved}
use Rattle.model.specs.Laws.{BlankPlace, Ruled}
use Rattle.model.proofs.Sums.{sum_none, sum_zero}
use Rattle.model.proofs.Checks.{else_ok, refuse_unless_ok}
use Rattle.model.proofs.Working.{work_on_ground}
use Rattle.model.proofs.Setting.{set_net, pick_other}
use Rattle.model.proofs.Placing.{other_book}
use Rattle.model.proofs.Layering.{stretch, open_net, net_opens, net_shuts, free_opens, free_shuts, not_shut, open_ranges}
use Rattle.model.proofs.Steady.{Stands, Steady, Shape}
use Rattle.model.proofs.TopRow.{net_set, free_set, set_low, set_steady, set_shape, open_row}

-- ---- layers
pub record Good (p : Pile) (rs : List InForce) : Type 0 where
  pub steady : Steady (pile_net p) (pile_free p) (λ t. 0) (λ i. pos (pile_free p i)) rs
  pub shape : Shape p rs

-- a layer of blank rows: the net below, with more places
abbrev pub grown : Net → ℕ → Net
grown n s = record {
  ground_places = n.ground_places;
  places = n.places + s;
  moves = n.moves;
  controllable = n.controllable;
  take = n.take;
  give = n.give;
  limit = λ i. cond (leb n.places i && ltb i (n.places + s)) control_limit (n.limit i);
  layer = λ i. cond (leb n.places i && ltb i (n.places + s)) (next_layer n.places n.layer) (n.layer i);
  row = λ i. cond (leb n.places i && ltb i (n.places + s)) (i - n.places) (n.row i);
}

module _ (n : Net) (k : ℕ) (R : Ranges n) where
  abbrev arcs : (ℕ → ℕ → ℕ) → (ℕ → ℕ → ℕ) → Net
  arcs take give = record { ground_places = n.ground_places; places = n.places + k; moves = n.moves; controllable = n.controllable; take = take; give = give; limit = (grown n k).limit; layer = (grown n k).layer; row = (grown n k).row }

  pub blank_net : open_net k n (λ r. blank) ≡ grown n k
  blank_net = ap₂ arcs (fun_ext (λ i. fun_ext (λ t. grind (arith, nat_tests, R.no_place i t)))) (fun_ext (λ i. fun_ext (λ t. grind (arith, nat_tests, R.no_place i t))))

  grown_ranges : n.places + k ≤ most_all_places → Ranges (grown n k)
  grown_ranges few = subst (λ (m : Net). Ranges m) blank_net (open_ranges k n (λ r. blank) R (λ r t l. (zero-le, zero-le)) few)

grown_room : (n : Net) (free g : ℕ → ℕ) (q : ℕ → ℤ) (rs : List InForce) → Steady n free g q rs → (p : ℕ) → n.places ≤ p → BlankPlace n free p ⊎ Ruled rs p → free p ≡ 0
grown_room n free g q rs s p l (inl b) = b.no_free
grown_room n free g q rs s p l (inr r) = absurd (omega (arith, r.there, (s.rules r.rule r.stands).high))

grown_steady : (n : Net) (free g : ℕ → ℕ) (q : ℕ → ℤ) (rs : List InForce) (k : ℕ) → n.places + k ≤ most_all_places → ((t : ℕ) → g t ≡ 0) → Steady n free g q rs → Steady (grown n k) free g q rs
grown_steady n free g q rs k few z s = record {
  ranges = grown_ranges n k s.ranges few;
  roomy = λ p l. stretch (λ x. free p + reserved n g p ≤ x) n.places (n.places + k) p control_limit (n.limit p)
      (λ a b. omega (arith, grown_room n free g q rs s p a (s.control p (le_trans s.ranges.places_all a)), sum_none n.moves g (λ u. max (n.take p u) (n.give p u)) (λ i h. z i)))
      (λ d. s.roomy p (elim d [ inl b ↦ b | inr b ↦ absurd (omega arith) ]));
  few = s.few;
  beyond = s.beyond;
  marked = s.marked;
  rules = λ r m. rule r (s.rules r m);
  control = λ c l. same c (s.control c l);
}
  where
    same : (c : ℕ) → BlankPlace n free c ⊎ Ruled rs c → BlankPlace (grown n k) free c ⊎ Ruled rs c
    same c (inl b) = inl (record { no_free = b.no_free; no_take = b.no_take; no_give = b.no_give })
    same c (inr r) = inr r

    rule : (r : InForce) → Stands n free g q r → Stands (grown n k) free g q r
    rule r d = record { low = d.low; high = omega (arith, d.high); takes = d.takes; gives = d.gives; adds_up = d.adds_up; working = work_on_ground n (grown n k) (record { same_ground = refl; same_moves = refl; same_controllable = λ t. refl; same_take = λ p t l. refl; same_give = λ p t l. refl }) r.typed ∙ d.working }

module _ (p : Pile) (rs : List InForce) (top : Top) (h : Good p rs) where
  abbrev n : Net
  n = pile_net p

  abbrev k : ℕ
  k = row_count top

  none : (i : ℕ) → n.places ≤ i → pile_free p i ≡ 0
  none i l = grown_room n (pile_free p) (λ t. 0) (λ i. pos (pile_free p i)) rs h.steady i l (h.steady.control i (le_trans h.steady.ranges.places_all l))

  tokens : pile_free (with_layer top p) ≡ pile_free p
  tokens = go (is_shut k n) refl
    where
      go : (b : Bool) → is_shut k n ≡ b → pile_free (with_layer top p) ≡ pile_free p
      go true e = free_shuts k n (λ r. blank) (pile_free p) e
      go false e = free_opens k n (λ r. blank) (pile_free p) e ∙ fun_ext (λ i. stretch (λ x. x ≡ pile_free p i) n.places (n.places + k) i 0 (pile_free p i) (λ a b. sym (none i a)) (λ d. refl))

  on : (b : Bool) → is_shut k n ≡ b → Steady (pile_net (with_layer top p)) (pile_free p) (λ t. 0) (λ i. pos (pile_free p i)) rs
  on true e = subst (λ (m : Net). Steady m (pile_free p) (λ t. 0) (λ i. pos (pile_free p i)) rs) (sym (net_shuts k n (λ r. blank) e)) h.steady
  on false e = subst (λ (m : Net). Steady m (pile_free p) (λ t. 0) (λ i. pos (pile_free p i)) rs) (sym (net_opens k n (λ r. blank) e ∙ blank_net n k h.steady.ranges))
      (grown_steady n (pile_free p) (λ t. 0) (λ i. pos (pile_free p i)) rs k (not_shut k n e) (λ t. refl) h.steady)

  there : (r : ℕ) → r < k → is_shut k n ≡ false → ((pile_net (with_layer top p)).ground_places ≤ n.places) × (n.places + r < (pile_net (with_layer top p)).places)
  there r l e = subst (λ (m : Net). (m.ground_places ≤ n.places) × (n.places + r < m.places)) (sym (net_opens k n (λ r. blank) e)) (h.steady.ranges.places_all, omega arith)

  good_layer : Good (with_layer top p) rs
  good_layer = record {
    steady = subst (λ (f : ℕ → ℕ). Steady (pile_net (with_layer top p)) f (λ t. 0) (λ i. pos (f i)) rs) (sym tokens) (on (is_shut k n) refl);
    shape = record { based = h.steady.ranges; there = there; settled = λ i m. inl (h.steady.rules i m).high };
  }

-- ---- a bare plant
good_bare : (n : Net) (free : ℕ → ℕ) → Ranges n → n.places ≡ n.ground_places → ((i : ℕ) → free i ≤ n.limit i) → Good (plant_alone n free) []
good_bare n free R all fits = record {
  steady = record {
    ranges = R;
    roomy = λ i l. omega (arith, fits i, sum_none n.moves (λ t. 0) (λ u. max (n.take i u) (n.give i u)) (λ u h. refl));
    few = omega (arith, sum_zero n.moves);
    beyond = λ t l. refl;
    marked = λ i l. ap pos (omega (arith, sum_none n.moves (λ t. 0) (n.take i) (λ u h. refl)));
    rules = λ r m. absurd (Memᴰ.not-nil m);
    control = λ c l. inl (blank_at c (subst (λ (x : ℕ). x ≤ c) (sym all) l));
  };
  shape = record { based = R; there = λ r l d. absurd (omega arith); settled = λ i m. absurd (Memᴰ.not-nil m) };
}
  where
    blank_at : (c : ℕ) → n.places ≤ c → BlankPlace n free c
    blank_at c l = record {
      no_free = omega (arith, fits c, R.no_place c 0 l);
      no_take = λ t. (R.no_place c t l).0;
      no_give = λ t. (R.no_place c t l).1;
    }

good_set : (p : Pile) (rs : List InForce) → Good p rs → (r : ℕ) → r < row_count p.top → (typed : Rule) (w : Worked) → top_answer p r typed ≡ Ok tt → work p.below typed ≡ Ok w →
    Good (with_rule p r w) (in_force p r typed w ∷ rs)
good_set p rs h r here typed w ok is = record {
  steady = other_book (pile_net (with_rule p r w)) (pile_free (with_rule p r w)) (λ t. 0) (λ i. pos (pile_free p i)) (λ i. pos (pile_free (with_rule p r w) i)) (in_force p r typed w ∷ rs) tokens
      (set_steady p h.shape.based r here typed w ok is (λ t. 0) (λ i. pos (pile_free p i)) rs h.steady h.shape (λ t. refl));
  shape = set_shape p h.shape.based r here typed w ok is (λ t. 0) (λ i. pos (pile_free p i)) rs h.steady h.shape;
}
  where
    same : pile_net (with_rule p r w) ≡ set_net (pile_net p) (row_place p r) w
    same = net_set p h.shape.based r here typed w ok is

    low : (pile_net p).ground_places ≤ row_place p r
    low = set_low p h.shape.based r here typed w ok is (λ t. 0) (λ i. pos (pile_free p i)) rs h.steady h.shape

    tokens : (i : ℕ) → i < (pile_net (with_rule p r w)).ground_places → pos (pile_free (with_rule p r w) i) ≡ pos (pile_free p i)
    tokens i l = ap (λ (f : ℕ → ℕ). pos (f i)) (free_set p h.shape.based r here typed w ok is)
        ∙ ap pos (pick_other i (row_place p r) (positive (w.bound -ℤ weighted_free (pile_net p) w.weight (pile_free p))) (pile_free p i) (λ e. omega (arith, subst (λ (m : Net). i < m.ground_places) same l, low)))

pub board_says : (p : Pile) (r : ℕ) (typed : Rule) → board_answer p r typed ≡ Ok tt → (r < row_count p.top) × (top_answer p r typed ≡ Ok tt)
board_says p r typed e =
    let e₁ = else_ok (refuse_unless (ltb r (open_rows p.top)) (setting_fault NoRow)) (top_answer p r typed) e in
    (open_row p.top r (ltb-true r (open_rows p.top) (refuse_unless_ok (ltb r (open_rows p.top)) (setting_fault NoRow) e₁.0)), e₁.1)

pub monitor_row : (top : Top) → top ≡ monitor → 0 < row_count top
monitor_row top e = subst (λ (x : Top). 0 < row_count x) (sym e) (omega arith)

pub built_good : {p : Pile} {rs : List InForce} → Built p rs → Good p rs
built_good (bare n free R all fits) = good_bare n free R all fits
built_good (monitored {p = p} {rs = rs} b) = good_layer p rs monitor (built_good b)
built_good (boarded {p = p} {rs = rs} b) = good_layer p rs board (built_good b)
built_good (monitor_set {p = p} {rs = rs} typed w b on ok is) = good_set p rs (built_good b) 0 (monitor_row p.top on) typed w ok is
built_good (board_set {p = p} {rs = rs} r typed w b ok is) = good_set p rs (built_good b) r (board_says p r typed ok).0 typed w (board_says p r typed ok).1 is
