-- Laws of sums, plain and signed, and of products of signed numbers.
use Rattle.std.proofs.Common.{◌≡◌, ℕ, zero, suc, ◌+◌, ◌*◌, ◌<◌, ◌≤◌, ℤ, pos, negsuc, ◌+ℤ◌, ◌-ℤ◌, ◌*ℤ◌, neg_ℤ, nat_abs, ◌≤ℤ◌, sym, refl, ap, ◌∙◌, subst, ap₂, inl, inr, zero-le, mul-le-mul_right, mul-le-mul, mul-le-mul_left, arith}
use borrow.Author.Differences.{ints, up, down, sum_is_lem, product_is, same_in, le_out}
use Rattle.std.proofs.Math.IntN.{*ℤ_comm}
use Rattle.std.proofs.lemmas.Bool.{cases_eq}
use Rattle.std.proofs.lemmas.Int.{by_lt_z, unsigned_abs-mul}
use Rattle.model.specs.Net.{sum, signed_sum}
use Rattle.model.specs.Rule.{positive}

-- ---- sums of naturals
pub sum_ext : (k : ℕ) (f g : ℕ → ℕ) → ((i : ℕ) → i < k → f i ≡ g i) → sum k f ≡ sum k g
sum_ext zero f g h = refl
sum_ext (suc k) f g h = ap₂ (λ a b. a + b) (sum_ext k f g (λ i l. h i (omega arith))) (h k (omega arith))

pub sum_le : (k : ℕ) (f g : ℕ → ℕ) → ((i : ℕ) → i < k → f i ≤ g i) → sum k f ≤ sum k g
sum_le zero f g h = zero-le
sum_le (suc k) f g h = omega (arith, sum_le k f g (λ i l. h i (omega arith)), h k (omega arith))

pub le_sum : (k : ℕ) (f : ℕ → ℕ) (i : ℕ) → i < k → f i ≤ sum k f
le_sum zero f i l = absurd (omega arith)
le_sum (suc k) f i l = grind (arith, le_sum k f i, cases_eq i k)

-- one summand changed, by d
pub sum_one : (k t d : ℕ) (f g : ℕ → ℕ) → t < k → ((u : ℕ) → (u ≡ t → ⊥) → g u ≡ f u) → g t ≡ f t + d → sum k g ≡ sum k f + d
sum_one zero t d f g l same at = absurd (omega arith)
sum_one (suc k) t d f g l same at = elim (cases_eq t k) [
  | inl e ↦ omega (arith, sum_ext k g f (λ i m. same i (λ w. omega arith)), subst (λ (j : ℕ). g j ≡ f j + d) e at)
  | inr n ↦ omega (arith, sum_one k t d f g (omega arith) same at, same k (λ q. n (sym q)))
]

pub sum_below : (k m : ℕ) (g h : ℕ → ℕ) → ((i : ℕ) → i < k → h i ≤ m) → sum k (λ u. g u * h u) ≤ sum k g * m
sum_below zero m g h b = zero-le
sum_below (suc k) m g h b = omega (arith, sum_below k m g h (λ i l. b i (omega arith)), mul-le-mul_left (g k) (b k (omega arith)))

pub sum_none : (k : ℕ) (g h : ℕ → ℕ) → ((i : ℕ) → i < k → g i ≡ 0) → sum k (λ u. g u * h u) ≡ 0
sum_none zero g h z = refl
sum_none (suc k) g h z = omega (arith, sum_none k g h (λ i l. z i (omega arith)), ap (λ x. x * h k) (z k (omega arith)))

pub sum_zero : (k : ℕ) → sum k (λ t. 0) ≡ 0
sum_zero zero = refl
sum_zero (suc k) = omega (arith, sum_zero k)

-- ---- products of integers
pub distrib : (k a b : ℤ) → k *ℤ (a +ℤ b) ≡ k *ℤ a +ℤ k *ℤ b
distrib k a b = same_in (k *ℤ (a +ℤ b)) (k *ℤ a +ℤ k *ℤ b)
    (omega (
      arith,
      sum_is_lem (k *ℤ a) (k *ℤ b),
      product_is k (a +ℤ b),
      product_is k a,
      product_is k b,
      ap (λ x. up k * x) (sum_is_lem a b),
      ap (λ x. down k * x) (sum_is_lem a b),
    ))

-- ---- sums of integers
pub signed_sum_ext : (k : ℕ) (f g : ℕ → ℤ) → ((i : ℕ) → i < k → f i ≡ g i) → signed_sum k f ≡ signed_sum k g
signed_sum_ext zero f g h = refl
signed_sum_ext (suc k) f g h = ap₂ (λ a b. a +ℤ b) (signed_sum_ext k f g (λ i l. h i (omega arith))) (h k (omega arith))

pub signed_sum_add : (k : ℕ) (l q d : ℕ → ℤ) → signed_sum k (λ p. l p *ℤ (q p +ℤ d p)) ≡ signed_sum k (λ p. l p *ℤ q p) +ℤ signed_sum k (λ p. l p *ℤ d p)
signed_sum_add zero l q d = refl
signed_sum_add (suc k) l q d = omega (arith, ints, distrib (l k) (q k) (d k), signed_sum_add k l q d)

pub signed_sum_abs : (k m : ℕ) (f : ℕ → ℤ) → ((i : ℕ) → i < k → nat_abs (f i) ≤ m) → nat_abs (signed_sum k f) ≤ k * m
signed_sum_abs zero m f h = zero-le
signed_sum_abs (suc k) m f h = omega (arith, ints, signed_sum_abs k m f (λ i l. h i (omega arith)), h k (omega arith))

pub abs_mul_le : (a b : ℤ) (m n : ℕ) → nat_abs a ≤ m → nat_abs b ≤ n → nat_abs (a *ℤ b) ≤ m * n
abs_mul_le a b m n h k = subst (λ (x : ℕ). x ≤ m * n) (sym (unsigned_abs-mul a b)) (mul-le-mul h k)

-- ---- the greatest raise over choices
choice_term : (c v : ℕ) (r : ℤ) → c ≤ v → (pos c *ℤ r) ≤ℤ pos (v * positive r)
choice_term c v (pos n) h = omega (arith, ints, mul-le-mul_right n h)
choice_term c v (negsuc n) h = omega (arith, ints)

pub choice_most : (k : ℕ) (c v : ℕ → ℕ) (r : ℕ → ℤ) → ((u : ℕ) → c u ≤ v u) → signed_sum k (λ u. pos (c u) *ℤ r u) ≤ℤ pos (sum k (λ u. v u * positive (r u)))
choice_most zero c v r h = record { le = tt }
choice_most (suc k) c v r h = omega (arith, ints, choice_most k c v r h, choice_term (c k) (v k) (r k) (h k))

-- the choice that reaches it: all where the raise is positive, none elsewhere
abbrev pub wise : ℤ → ℕ → ℕ
wise (pos n) v = v
wise (negsuc n) v = 0

pub wise_le : (r : ℤ) (v : ℕ) → wise r v ≤ v
wise_le (pos n) v = omega arith
wise_le (negsuc n) v = zero-le

wise_term : (r : ℤ) (v : ℕ) → pos (wise r v) *ℤ r ≡ pos (v * positive r)
wise_term (pos n) v = refl
wise_term (negsuc n) v = omega (arith, ints)

pub wise_sum : (k : ℕ) (v : ℕ → ℕ) (r : ℕ → ℤ) → signed_sum k (λ u. pos (wise (r u) (v u)) *ℤ r u) ≡ pos (sum k (λ u. v u * positive (r u)))
wise_sum zero v r = refl
wise_sum (suc k) v r = ap₂ (λ a b. a +ℤ b) (wise_sum k v r) (wise_term (r k) (v k))

-- ---- a worked rule implies the rule as typed
pub distrib_right : (a b k : ℤ) → (a +ℤ b) *ℤ k ≡ a *ℤ k +ℤ b *ℤ k
distrib_right a b k = *ℤ_comm (a +ℤ b) k ∙ distrib k a b ∙ ap₂ (λ x y. x +ℤ y) (*ℤ_comm k a) (*ℤ_comm k b)

pub assoc : (k : ℕ) (w d : ℤ) → (pos k *ℤ w) *ℤ d ≡ pos k *ℤ (w *ℤ d)
assoc k w d = same_in ((pos k *ℤ w) *ℤ d) (pos k *ℤ (w *ℤ d))
    (omega (
      arith,
      product_is (pos k *ℤ w) d,
      product_is (pos k) (w *ℤ d),
      product_is (pos k) w,
      product_is w d,
      ap (λ x. x * up d) (product_is (pos k) w).0,
      ap (λ x. x * down d) (product_is (pos k) w).0,
      ap (λ x. x * up d) (product_is (pos k) w).1,
      ap (λ x. x * down d) (product_is (pos k) w).1,
      ap (λ x. k * x) (product_is w d).0,
      ap (λ x. k * x) (product_is w d).1,
    ))

scale : (r n : ℕ) (a x l s s' : ℤ) → pos 0 ≤ℤ a → x ≡ a +ℤ pos r *ℤ l → (pos r *ℤ s) ≤ℤ s' → (pos r *ℤ (s +ℤ l *ℤ pos n)) ≤ℤ (s' +ℤ x *ℤ pos n)
scale r n (pos a) x l s s' ha hx hs =
    omega (arith, ints, ap (λ y. y *ℤ pos n) hx, distrib_right (pos a) (pos r *ℤ l) (pos n), assoc r l (pos n), distrib (pos r) s (l *ℤ pos n))
scale r n (negsuc a) x l s s' ha hx hs = absurd ha.le

pub scaled : (k r : ℕ) (w a l : ℕ → ℤ) (q : ℕ → ℤ) (m : ℕ → ℕ) → ((p : ℕ) → p < k → pos 0 ≤ℤ a p) → ((p : ℕ) → p < k → w p ≡ a p +ℤ pos r *ℤ l p) → ((p : ℕ) → p < k → q p ≡ pos (m p)) →
    (pos r *ℤ signed_sum k (λ p. l p *ℤ q p)) ≤ℤ signed_sum k (λ p. w p *ℤ q p)
scaled zero r w a l q m ha hw hq = omega (arith, ints)
scaled (suc k) r w a l q m ha hw hq =
    let e : q k ≡ pos (m k) = hq k (omega arith) in
    let ih : (pos r *ℤ signed_sum k (λ p. l p *ℤ q p)) ≤ℤ signed_sum k (λ p. w p *ℤ q p) = scaled k r w a l q m (λ p h. ha p (omega arith)) (λ p h. hw p (omega arith)) (λ p h. hq p (omega arith)) in
    subst (λ (z : ℤ). (pos r *ℤ (signed_sum k (λ p. l p *ℤ q p) +ℤ l k *ℤ z)) ≤ℤ (signed_sum k (λ p. w p *ℤ q p) +ℤ w k *ℤ z)) (sym e)
    (scale r (m k) (a k) (w k) (l k) (signed_sum k (λ p. l p *ℤ q p)) (signed_sum k (λ p. w p *ℤ q p)) (ha k (omega arith)) (hw k (omega arith)) ih)

-- r s ≤ r (b + 1) - 1, so s ≤ b
pub unscale : (r : ℕ) (s b : ℤ) → 1 ≤ r → (pos r *ℤ s) ≤ℤ (pos r *ℤ (b +ℤ pos 1) -ℤ pos 1) → s ≤ℤ b
unscale r s b h k = by_lt_z b s (λ l.
    let m : up b + down s + 1 ≤ up s + down b = omega (arith, ints) in
    absurd (omega (
      arith,
      le_out (pos r *ℤ s) (pos r *ℤ (b +ℤ pos 1) -ℤ pos 1) k,
      sum_is_lem (pos r *ℤ (b +ℤ pos 1)) (neg_ℤ (pos 1)),
      product_is (pos r) s,
      product_is (pos r) (b +ℤ pos 1),
      ap (λ x. r * x) (sum_is_lem b (pos 1)),
      mul-le-mul_left r m,
    ))) (λ m. m)
