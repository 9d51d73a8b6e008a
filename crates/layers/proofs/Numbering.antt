-- One above the highest layer below, as the greatest of a list.
use Rattle.std.proofs.Common.{◌≡◌, ℕ, zero, suc, ◌+◌, max, refl, sym, ap, ◌∙◌, arith, List, ◌∷◌, map, fold, add-one}
use Rattle.std.specs.List.{range_with_len, reduce}
use Rattle.std.specs.Option.{unwrap_or}
use Rattle.std.proofs.lemmas.List.FromFn.{map-range_with_len_more}
use Rattle.std.proofs.lemmas.List.Sums.{fold_push}
use Rattle.model.specs.Layer.{next_layer}

-- the greatest of numbers above 0, or 1 if there are none, is the greatest of 1 and them
greatest_of : (x : ℕ) (xs : List ℕ) → unwrap_or (reduce max ((x + 1) ∷ xs)) 1 ≡ fold max 1 ((x + 1) ∷ xs)
greatest_of x xs = ap (λ y. fold max y xs) (omega arith)

folded : (n : ℕ) (layer : ℕ → ℕ) → fold max 1 (map (λ p. layer p + 1) (range_with_len 0 n)) ≡ next_layer n layer
folded zero layer = refl
folded (suc n) layer =
    ap (λ k. fold max 1 (map (λ p. layer p + 1) (range_with_len 0 k))) (sym (add-one n))
    ∙ ap (fold max 1) (map-range_with_len_more (λ p. layer p + 1) 0 n n (omega arith))
    ∙ fold_push max 1 (map (λ p. layer p + 1) (range_with_len 0 n)) (layer n + 1)
    ∙ ap (λ x. max x (layer n + 1)) (folded n layer)

pub next_listed : (n : ℕ) (layer : ℕ → ℕ) → unwrap_or (reduce max (map (λ p. layer p + 1) (range_with_len 0 n))) 1 ≡ next_layer n layer
next_listed zero layer = refl
next_listed (suc n) layer = greatest_of (layer 0) (map (λ p. layer p + 1) (range_with_len 1 n)) ∙ folded (suc n) layer
