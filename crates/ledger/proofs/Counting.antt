-- The sums over open grants, when one more is open or one fewer.
use Rattle.std.proofs.Common.{◌≡◌, ℕ, ◌+◌, ◌*◌, ◌<◌, ◌≤◌, max, ap, sym, refl, ◌∙◌, inl, inr, arith, slice_index, slice_set, replicate, length, List, map, cond, true, false, ◌==◌, ◌-◌, zero, suc, subst, le_trans, mul-le-mul, add-one}
use Rattle.std.specs.List.{range_with_len}
use Rattle.std.specs.List as lists
use Rattle.std.proofs.lemmas.List.FromFn.{map-range_with_len_more}
use Rattle.std.proofs.lemmas.List.Sums.{fold_push}
use Rattle.std.proofs.lemmas.Bool.{cases_lt, cases_eq, cond-true, cond-false, eq-eqb, ne_eqb}
use Rattle.std.proofs.lemmas.List.{get_or_past, get_or-replicate, length-replicate, get_or-set_same, get_or-set_other}
use Rattle.model.specs.Sizes.{most_control_arc, most_open, control_limit}
use Rattle.model.specs.Net.{Net, Ranges, sum}
use Rattle.model.specs.Ledger.{open_count, reserved, taken, plus_one, minus_one}
use Rattle.ledger.specs.declared.grants.Grants.{Grants}
use Rattle.ledger.specs.Grants.{opened, Tallied}
use Rattle.model.proofs.Sums.{sum_below, le_sum, sum_zero, sum_none}
use Rattle.model.proofs.Moving.{plus_other, sum_plus, sum_minus, count_plus, count_minus}

-- the most that one grant may bring to a place
pub brought_small : (n : Net) → Ranges n → (p t : ℕ) → max (n.take p t) (n.give p t) ≤ most_control_arc
brought_small n r p t = elim (cases_lt p n.ground_places) [
  | inl l ↦ omega (arith, (r.ground_arcs p t l).0, (r.ground_arcs p t l).1)
  | inr l ↦ omega (arith, (r.control_arcs p t l).0, (r.control_arcs p t l).1)
]

pub reserved_small : (n : Net) (g : ℕ → ℕ) (p : ℕ) → Ranges n → open_count n g ≤ most_open → reserved n g p ≤ most_open * most_control_arc
reserved_small n g p r few =
    let a = sum_below n.moves most_control_arc g (λ u. max (n.take p u) (n.give p u)) (λ u l. brought_small n r p u) in
    omega (arith, a)

module _ (n : Net) (g : ℕ → ℕ) (t : ℕ) (there : t < n.moves) where
  pub reserved_plus : (p : ℕ) → reserved n (plus_one g t) p ≡ reserved n g p + max (n.take p t) (n.give p t)
  reserved_plus p = sum_plus n.moves t g (λ u. max (n.take p u) (n.give p u)) there

  pub reserved_minus : (p : ℕ) → 0 < g t → reserved n g p ≡ reserved n (minus_one g t) p + max (n.take p t) (n.give p t)
  reserved_minus p o = sum_minus n.moves t g (λ u. max (n.take p u) (n.give p u)) there o

-- ---- tables of counts
pub zeros : (n i : ℕ) → slice_index (replicate n 0) i ≡ 0
zeros n i = elim (cases_lt i n) [ inl l ↦ get_or-replicate n i 0 0 l | inr l ↦ get_or_past (replicate n 0) i 0 (let e : length (replicate {A = ℕ} n 0) ≡ n = length-replicate {A = ℕ} n 0 in omega arith) ]

-- one count of the table changed
set_count : (xs : List ℕ) (t v : ℕ) → t < length xs → opened (slice_set xs t v) ≡ (λ u. cond (u == t) v (opened xs u))
set_count xs t v l = λ j u. at u j
  where
    at : (u : ℕ) → opened (slice_set xs t v) u ≡ cond (u == t) v (opened xs u)
    at u = elim (cases_eq u t) [
      | inl e ↦ ap (opened (slice_set xs t v)) e ∙ get_or-set_same xs t v 0 l ∙ sym (cond-true (u == t) v (opened xs u) (eq-eqb u t e))
      | inr ne ↦ get_or-set_other xs t u v 0 ne ∙ sym (cond-false (u == t) v (opened xs u) (ne_eqb u t ne))
    ]

-- the count at t is changed as the model changes it
at_that : (f : ℕ → ℕ) (change : ℕ → ℕ) (t : ℕ) → ◌≡◌ {A = ℕ → ℕ} (λ u. cond (u == t) (change (f t)) (f u)) (λ u. cond (u == t) (change (f u)) (f u))
at_that f change t = λ j u. at u j
  where
    at : (u : ℕ) → cond (u == t) (change (f t)) (f u) ≡ cond (u == t) (change (f u)) (f u)
    at u = elim (cases_eq u t) [
      | inl e ↦ ap (λ v. cond (u == t) (change (f v)) (f u)) (sym e)
      | inr ne ↦ cond-false (u == t) (change (f t)) (f u) (ne_eqb u t ne) ∙ sym (cond-false (u == t) (change (f u)) (f u) (ne_eqb u t ne))
    ]

pub count_raised : (xs : List ℕ) (t : ℕ) → t < length xs → opened (slice_set xs t (slice_index xs t + 1)) ≡ plus_one (opened xs) t
count_raised xs t l = set_count xs t (slice_index xs t + 1) l ∙ at_that (opened xs) (λ v. v + 1) t

pub count_lowered : (xs : List ℕ) (t : ℕ) → t < length xs → opened (slice_set xs t (slice_index xs t - 1)) ≡ minus_one (opened xs) t
count_lowered xs t l = set_count xs t (slice_index xs t - 1) l ∙ at_that (opened xs) (λ v. v - 1) t

minus_small : (f : ℕ → ℕ) (t u : ℕ) → minus_one f t u ≤ f u
minus_small f t u = elim (u == t) as (λ b. cond b (f u - 1) (f u) ≤ f u) [ true ↦ omega arith | false ↦ omega arith ]

-- ---- the tally with one grant more, and with one fewer
module _ (n : Net) (old new : Grants) (t : ℕ) (there : t < n.moves) (tallied : Tallied n old) where
  pub tally_more : n.controllable t ≡ true → old.total < most_open → opened new.counts ≡ plus_one (opened old.counts) t → new.total ≡ old.total + 1
      → ((p : ℕ) → p < n.places → slice_index new.reserved p ≡ slice_index old.reserved p + max (n.take p t) (n.give p t)) → Tallied n new
  tally_more controllable room counts total raised = record {
    total_is = total ∙ ap (λ x. x + 1) tallied.total_is ∙ sym (count_plus n.moves t (opened old.counts) there) ∙ ap (open_count n) (sym counts);
    few = omega arith;
    reserved_is = λ p l. raised p l ∙ ap (λ x. x + max (n.take p t) (n.give p t)) (tallied.reserved_is p l) ∙ sym (reserved_plus n (opened old.counts) t there p) ∙ ap (λ g. reserved n g p) (sym counts);
    granted = λ u o. elim (cases_eq u t) [
      | inl e ↦ subst (λ k. (k < n.moves) × (n.controllable k ≡ true)) (sym e) (there, controllable)
      | inr ne ↦ tallied.granted u (omega (arith, o, ap (λ f. f u) counts ∙ plus_other (opened old.counts) t u ne))
    ];
  }

  pub tally_fewer : 0 < opened old.counts t → opened new.counts ≡ minus_one (opened old.counts) t → new.total ≡ old.total - 1
      → ((p : ℕ) → p < n.places → slice_index new.reserved p ≡ slice_index old.reserved p - max (n.take p t) (n.give p t)) → Tallied n new
  tally_fewer some counts total lowered =
      let m : open_count n (opened old.counts) ≡ open_count n (minus_one (opened old.counts) t) + 1 = count_minus n.moves t (opened old.counts) there some in
      record {
        total_is = (omega (arith, m, tallied.total_is)) ∙ ap (open_count n) (sym counts);
        few = omega (arith, tallied.few);
        reserved_is = λ p l. lowered p l ∙ down (slice_index old.reserved p) (reserved n (opened old.counts) p) (reserved n (minus_one (opened old.counts) t) p) (max (n.take p t) (n.give p t)) (tallied.reserved_is p l) (reserved_minus n (opened old.counts) t there p some) ∙ ap (λ g. reserved n g p) (sym counts);
        granted = λ u o. tallied.granted u (omega (arith, o, ap (λ f. f u) counts, minus_small (opened old.counts) t u));
      }
    where
      down : (x a b m : ℕ) → x ≡ a → a ≡ b + m → x - m ≡ b
      down x a b m e h = omega arith

-- what one open grant may bring to a place is in the sum kept for it
pub brought_held : (n : Net) (g : ℕ → ℕ) (t p : ℕ) → t < n.moves → 0 < g t → max (n.take p t) (n.give p t) ≤ reserved n g p
brought_held n g t p there some = omega (arith, reserved_minus n g t there p some)

-- ---- the tally with no grant open
none_reserved : (n : Net) (g : ℕ → ℕ) (p : ℕ) → g ≡ (λ t. 0) → reserved n g p ≡ 0
none_reserved n g p none = ap (λ (f : ℕ → ℕ). reserved n f p) none ∙ sum_none n.moves (λ t. 0) (λ u. max (n.take p u) (n.give p u)) (λ i k. refl)

pub tallied_none : (n : Net) (g : Grants) → opened g.counts ≡ (λ t. 0) → g.total ≡ 0 → ((p : ℕ) → p < n.places → slice_index g.reserved p ≡ 0) → Tallied n g
tallied_none n g none total nothing = record {
  total_is = total ∙ sym (ap (open_count n) none ∙ sum_zero n.moves);
  few = omega arith;
  reserved_is = λ p l. nothing p l ∙ sym (none_reserved n (opened g.counts) p none);
  granted = λ t o. absurd (omega (arith, o, ap (λ f. f t) none));
}

-- so it is that of every net with the same places
pub tally_idle : (n m : Net) (g : Grants) → m.places ≡ n.places → g.total ≡ 0 → Tallied n g → Tallied m g
tally_idle n m g places idle t = tallied_none m g (λ i u. none u i) idle (λ p l. t.reserved_is p (subst (λ k. p < k) places l) ∙ none_reserved n (opened g.counts) p (λ i u. none u i))
  where
    none : (u : ℕ) → opened g.counts u ≡ 0
    none u = elim (cases_lt 0 (opened g.counts u)) [ inl o ↦ omega (arith, le_sum n.moves (opened g.counts) u (t.granted u o).0, t.total_is) | inr l ↦ omega arith ]

-- ---- markings
take_small : (n : Net) → Ranges n → (p t : ℕ) → n.take p t ≤ most_control_arc
take_small n r p t = elim (cases_lt p n.ground_places) [ inl l ↦ omega (arith, (r.ground_arcs p t l).0) | inr l ↦ omega (arith, (r.control_arcs p t l).0) ]

limit_small : (n : Net) → Ranges n → (p : ℕ) → n.limit p ≤ control_limit
limit_small n r p = elim (cases_lt p n.ground_places) [
  | inl l ↦ omega (arith, (r.ground_limit p l).1)
  | inr l ↦ elim (cases_lt p n.places) [ inl k ↦ omega (arith, r.control_limited p l k) | inr k ↦ omega (arith, (r.no_place p 0 k).2) ]
]

-- what open grants have taken from a place, and its free tokens with that, still fit
module _ (n : Net) (r : Ranges n) (g : ℕ → ℕ) (few : open_count n g ≤ most_open) (p : ℕ) where
  pub one_taken : (t : ℕ) → g t * n.take p t ≤ most_open * most_control_arc
  one_taken t = elim (cases_lt t n.moves) [
    | inl l ↦ mul-le-mul (le_trans (le_sum n.moves g t l) few) (take_small n r p t)
    | inr l ↦ omega (arith, ap (λ x. g t * x) (r.no_move p t l).0)
  ]

  pub all_taken : taken n g p ≤ most_open * most_control_arc
  all_taken = omega (arith, sum_below n.moves most_control_arc g (λ u. n.take p u) (λ u h. take_small n r p u))

  pub free_and_taken : (free : ℕ) → free ≤ n.limit p → free + taken n g p ≤ control_limit + most_open * most_control_arc
  free_and_taken free l = omega (arith, all_taken, limit_small n r p)

-- the sum of the model is that of a list
pub sum_listed : (n : ℕ) (f : ℕ → ℕ) → lists.sum (map f (range_with_len 0 n)) ≡ sum n f
sum_listed zero f = refl
sum_listed (suc n) f =
    ap (λ k. lists.sum (map f (range_with_len 0 k))) (sym (add-one n))
    ∙ ap lists.sum (map-range_with_len_more f 0 n n (omega arith))
    ∙ fold_push (λ a x. a + x) 0 (map f (range_with_len 0 n)) (f n)
    ∙ ap (λ x. x + f n) (sum_listed n f)
