-- The calls that move tokens keep the invariant.
use Rattle.std.proofs.Common.{◌≡◌, ℕ, suc, ◌+◌, ◌-◌, ◌*◌, ◌<◌, ◌≤◌, max, cond, ◌⊎◌, List, ℤ, pos, ◌+ℤ◌, ◌-ℤ◌, sym, refl, ap, ◌∙◌, inl, inr, arith, eq-eqb, ne_eqb}
use borrow.Author.Differences.{ints}
use Rattle.model.specs.Net.{Net, sum, incidence}
use Rattle.model.specs.Rule.{weighted, raise, positive, negative}
use Rattle.model.specs.Layer.{InForce}
use Rattle.model.specs.Sizes.{most_open}
use Rattle.model.specs.Ledger.{reserved, plus_one, minus_one}
use Rattle.model.specs.Laws.{BlankPlace, Ruled}
use Rattle.model.proofs.Sums.{sum_one, signed_sum_add}
use Rattle.model.proofs.Steady.{held_open, Stands, Steady}

-- ---- one more, one less
pub plus_same : (g : ℕ → ℕ) (t : ℕ) → plus_one g t t ≡ g t + 1
plus_same g t = ap (λ b. cond b (g t + 1) (g t)) (eq-eqb t t refl)

pub plus_other : (g : ℕ → ℕ) (t u : ℕ) → (u ≡ t → ⊥) → plus_one g t u ≡ g u
plus_other g t u h = ap (λ b. cond b (g u + 1) (g u)) (ne_eqb u t h)

pub minus_same : (g : ℕ → ℕ) (t : ℕ) → minus_one g t t ≡ g t - 1
minus_same g t = ap (λ b. cond b (g t - 1) (g t)) (eq-eqb t t refl)

pub minus_other : (g : ℕ → ℕ) (t u : ℕ) → (u ≡ t → ⊥) → minus_one g t u ≡ g u
minus_other g t u h = ap (λ b. cond b (g u - 1) (g u)) (ne_eqb u t h)

pub sum_plus : (k t : ℕ) (g h : ℕ → ℕ) → t < k → sum k (λ u. plus_one g t u * h u) ≡ sum k (λ u. g u * h u) + h t
sum_plus k t g h l = sum_one k t (h t) (λ u. g u * h u) (λ u. plus_one g t u * h u) l
    (λ u d. ap (λ x. x * h u) (plus_other g t u d)) (ap (λ x. x * h t) (plus_same g t) ∙ omega arith)

pub sum_minus : (k t : ℕ) (g h : ℕ → ℕ) → t < k → 0 < g t → sum k (λ u. g u * h u) ≡ sum k (λ u. minus_one g t u * h u) + h t
sum_minus k t g h l o = sum_one k t (h t) (λ u. minus_one g t u * h u) (λ u. g u * h u) l
    (λ u d. ap (λ x. x * h u) (sym (minus_other g t u d))) (let f : g t ≡ suc (minus_one g t t) = omega (arith, minus_same g t) in omega (arith, ap (λ x. x * h t) f))

pub count_plus : (k t : ℕ) (g : ℕ → ℕ) → t < k → sum k (plus_one g t) ≡ sum k g + 1
count_plus k t g l = sum_one k t 1 g (plus_one g t) l (plus_other g t) (plus_same g t)

pub count_minus : (k t : ℕ) (g : ℕ → ℕ) → t < k → 0 < g t → sum k g ≡ sum k (minus_one g t) + 1
count_minus k t g l o = sum_one k t 1 (minus_one g t) g l (λ u d. sym (minus_other g t u d)) (omega (arith, minus_same g t))

beyond_plus : (k t : ℕ) (g : ℕ → ℕ) → t < k → ((u : ℕ) → k ≤ u → g u ≡ 0) → (u : ℕ) → k ≤ u → plus_one g t u ≡ 0
beyond_plus k t g l z u h = plus_other g t u (λ e. omega arith) ∙ z u h

beyond_minus : (k t : ℕ) (g : ℕ → ℕ) → t < k → ((u : ℕ) → k ≤ u → g u ≡ 0) → (u : ℕ) → k ≤ u → minus_one g t u ≡ 0
beyond_minus k t g l z u h = minus_other g t u (λ e. omega arith) ∙ z u h

-- ---- the invariant of a state that differs in tokens, open grants and book only
stands_by : (n : Net) (free g free' g' : ℕ → ℕ) (q q' : ℕ → ℤ) (r : InForce) → Stands n free g q r →
    (weighted n r.worked.weight q' +ℤ pos (free' r.place)) +ℤ pos (held_open n g' r.worked.weight) ≡ r.worked.bound → Stands n free' g' q' r
stands_by n free g free' g' q q' r s e = record { low = s.low; high = s.high; takes = s.takes; gives = s.gives; adds_up = e; working = s.working }

blank_by : (n : Net) (free free' : ℕ → ℕ) (rs : List InForce) (c : ℕ) → (BlankPlace n free c → free' c ≡ 0) → BlankPlace n free c ⊎ Ruled rs c → BlankPlace n free' c ⊎ Ruled rs c
blank_by n free free' rs c f (inl b) = inl (record { no_free = f b; no_take = b.no_take; no_give = b.no_give })
blank_by n free free' rs c f (inr r) = inr r

-- ---- arithmetic of one rule's sum
pub raise_is : (r : ℤ) → r ≡ pos (positive r) -ℤ pos (negative r)
raise_is r = grind (arith, ints)

-- ---- the calls
abbrev pub after : Net → (ℕ → ℤ) → ℕ → ℕ → ℤ
after n q t p = q p +ℤ incidence n p t

after_weighted : (n : Net) (w q : ℕ → ℤ) (t : ℕ) → weighted n w (after n q t) ≡ weighted n w q +ℤ raise n w t
after_weighted n w q t = signed_sum_add n.ground_places w q (λ p. incidence n p t)

module _ (n : Net) (free g : ℕ → ℕ) (q : ℕ → ℤ) (rs : List InForce) (s : Steady n free g q rs) (t : ℕ) (known : t < n.moves) where
  pub granted : (free' : ℕ → ℕ) → ((p : ℕ) → free' p ≡ free p - n.take p t) → ((p : ℕ) → p < n.places → n.take p t ≤ free p) → sum n.moves g < most_open →
      ((p : ℕ) → p < n.places → free p + max (n.take p t) (n.give p t) + reserved n g p ≤ n.limit p + n.take p t) → Steady n free' (plus_one g t) q rs
  granted free' e enough not_full room = record {
    ranges = s.ranges;
    roomy = λ p l. omega (arith, e p, enough p l, sum_plus n.moves t g (λ u. max (n.take p u) (n.give p u)) known, room p l);
    few = omega (arith, not_full, count_plus n.moves t g known);
    beyond = beyond_plus n.moves t g known s.beyond;
    marked = λ p l. s.marked p l ∙ ap pos (omega (arith, e p, enough p (omega (arith, s.ranges.places_all)), sum_plus n.moves t g (λ u. n.take p u) known));
    rules = λ r m. rule r (s.rules r m);
    control = λ c l. blank_by n free free' rs c (λ b. omega (arith, e c, b.no_free)) (s.control c l);
  }
    where
      rule : (r : InForce) → Stands n free g q r → Stands n free' (plus_one g t) q r
      rule r k = stands_by n free g free' (plus_one g t) q q r k
          (omega (arith, ints, k.adds_up, enough r.place k.high, e r.place, sum_plus n.moves t g (λ u. positive (raise n r.worked.weight u)) known, k.takes t))

  pub cancelled : (free' : ℕ → ℕ) → ((p : ℕ) → free' p ≡ free p + n.take p t) → 0 < g t → Steady n free' (minus_one g t) q rs
  cancelled free' e open_one = record {
    ranges = s.ranges;
    roomy = λ p l. omega (arith, e p, sum_minus n.moves t g (λ u. max (n.take p u) (n.give p u)) known open_one, s.roomy p l);
    few = omega (arith, count_minus n.moves t g known open_one, s.few);
    beyond = beyond_minus n.moves t g known s.beyond;
    marked = λ p l. s.marked p l ∙ ap pos (omega (arith, e p, sum_minus n.moves t g (λ u. n.take p u) known open_one));
    rules = λ r m. rule r (s.rules r m);
    control = λ c l. blank_by n free free' rs c (λ b. omega (arith, e c, b.no_free, b.no_take t)) (s.control c l);
  }
    where
      rule : (r : InForce) → Stands n free g q r → Stands n free' (minus_one g t) q r
      rule r k = stands_by n free g free' (minus_one g t) q q r k
          (omega (arith, ints, k.adds_up, e r.place, sum_minus n.moves t g (λ u. positive (raise n r.worked.weight u)) known open_one, k.takes t))

  pub committed : (free' : ℕ → ℕ) → ((p : ℕ) → free' p ≡ free p + n.give p t) → 0 < g t → Steady n free' (minus_one g t) (after n q t) rs
  committed free' e open_one = record {
    ranges = s.ranges;
    roomy = λ p l. omega (arith, e p, sum_minus n.moves t g (λ u. max (n.take p u) (n.give p u)) known open_one, s.roomy p l);
    few = omega (arith, count_minus n.moves t g known open_one, s.few);
    beyond = beyond_minus n.moves t g known s.beyond;
    marked = λ p l. omega (arith, ints, s.marked p l, e p, sum_minus n.moves t g (λ u. n.take p u) known open_one);
    rules = λ r m. rule r (s.rules r m);
    control = λ c l. blank_by n free free' rs c (λ b. omega (arith, e c, b.no_free, b.no_give t)) (s.control c l);
  }
    where
      rule : (r : InForce) → Stands n free g q r → Stands n free' (minus_one g t) (after n q t) r
      rule r k = stands_by n free g free' (minus_one g t) q (after n q t) r k
          (omega (
            arith,
            ints,
            k.adds_up,
            after_weighted n r.worked.weight q t,
            raise_is (raise n r.worked.weight t),
            e r.place,
            k.gives t,
            sum_minus n.moves t g (λ u. positive (raise n r.worked.weight u)) known open_one,
          ))

  pub reported : (free' : ℕ → ℕ) → ((p : ℕ) → free' p ≡ free p - n.take p t + n.give p t) → ((p : ℕ) → p < n.places → n.take p t ≤ free p) →
      ((p : ℕ) → p < n.places → free p + max (n.take p t) (n.give p t) + reserved n g p ≤ n.limit p + n.take p t) → Steady n free' g (after n q t) rs
  reported free' e enough room = record {
    ranges = s.ranges;
    roomy = λ p l. omega (arith, e p, enough p l, room p l);
    few = s.few;
    beyond = s.beyond;
    marked = λ p l. omega (arith, ints, s.marked p l, e p, enough p (omega (arith, s.ranges.places_all)));
    rules = λ r m. rule r (s.rules r m);
    control = λ c l. blank_by n free free' rs c (λ b. omega (arith, e c, b.no_free, b.no_give t)) (s.control c l);
  }
    where
      rule : (r : InForce) → Stands n free g q r → Stands n free' g (after n q t) r
      rule r k = stands_by n free g free' g q (after n q t) r k
          (omega (arith, ints, k.adds_up, after_weighted n r.worked.weight q t, raise_is (raise n r.worked.weight t), enough r.place k.high, e r.place, k.takes t, k.gives t))
