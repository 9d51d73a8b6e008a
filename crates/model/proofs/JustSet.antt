-- A row just set: its arcs, its tokens, and that nothing else has changed.
use Rattle.std.proofs.Common.{◌≡◌, ℕ, ◌⊎◌, ℤ, pos, negsuc, ◌+ℤ◌, ◌-ℤ◌, neg_ℤ, ◌≤ℤ◌, ap, ◌∙◌, inl, inr, arith}
use borrow.Author.Differences.{ints}
use Rattle.model.specs.Net.{Net}
use Rattle.model.specs.Rule.{raise, positive, negative, weighted_free}
use Rattle.model.specs.Layer.{pile_net, pile_free, row_place, with_rule}
use Rattle.model.specs.Laws.{SetRow}
use Rattle.model.proofs.Setting.{pick_same, pick_other, set_net, set_free}
use Rattle.model.proofs.TopRow.{net_set, free_set, fits_now}

pub flip : (z : ℤ) (a b : ℕ) → a ≡ positive z → b ≡ negative z → pos b -ℤ pos a ≡ neg_ℤ z
flip z a b e k = grind (arith, ints)

half : (z : ℤ) (a b : ℕ) → a ≡ positive z → b ≡ negative z → (a ≡ 0) ⊎ (b ≡ 0)
half (pos n) a b e k = inr k
half (negsuc n) a b e k = inl e

whole : (b x : ℤ) → x ≤ℤ b → x +ℤ pos (positive (b -ℤ x)) ≡ b
whole b x h = grind (arith, ints)

pub set_row : SetRow
set_row p R r here typed w ok is = record {
  arcs = λ t. flip (raise (pile_net p) w.weight t) (q.take c t) (q.give c t) (takes t) (gives t);
  one_way = λ t. half (raise (pile_net p) w.weight t) (q.take c t) (q.give c t) (takes t) (gives t);
  tokens = ap (λ x. weighted_free (pile_net p) w.weight (pile_free p) +ℤ pos x) (ap (λ (f : ℕ → ℕ). f c) free_is ∙ pick_same c (positive (w.bound -ℤ weighted_free (pile_net p) w.weight (pile_free p))) (pile_free p c))
      ∙ whole w.bound (weighted_free (pile_net p) w.weight (pile_free p)) (fits_now p R r here typed w ok is);
  others = λ i t d. (
    ap (λ (m : Net). m.take i t) net_is ∙ pick_other i c (positive (raise (pile_net p) w.weight t)) ((pile_net p).take i t) d,
    ap (λ (m : Net). m.give i t) net_is ∙ pick_other i c (negative (raise (pile_net p) w.weight t)) ((pile_net p).give i t) d,
    ap (λ (f : ℕ → ℕ). f i) free_is ∙ pick_other i c (positive (w.bound -ℤ weighted_free (pile_net p) w.weight (pile_free p))) (pile_free p i) d,
  );
}
  where
    c : ℕ
    c = row_place p r

    q : Net
    q = pile_net (with_rule p r w)

    net_is : pile_net (with_rule p r w) ≡ set_net (pile_net p) (row_place p r) w
    net_is = net_set p R r here typed w ok is

    free_is : pile_free (with_rule p r w) ≡ set_free (pile_net p) (pile_free p) (row_place p r) w
    free_is = free_set p R r here typed w ok is

    takes : (t : ℕ) → (pile_net (with_rule p r w)).take (row_place p r) t ≡ positive (raise (pile_net p) w.weight t)
    takes t = ap (λ (m : Net). m.take (row_place p r) t) net_is ∙ pick_same (row_place p r) (positive (raise (pile_net p) w.weight t)) ((pile_net p).take (row_place p r) t)

    gives : (t : ℕ) → (pile_net (with_rule p r w)).give (row_place p r) t ≡ negative (raise (pile_net p) w.weight t)
    gives t = ap (λ (m : Net). m.give (row_place p r) t) net_is ∙ pick_same (row_place p r) (negative (raise (pile_net p) w.weight t)) ((pile_net p).give (row_place p r) t)
