-- The number of a layer: found place by place, and never above the layer's first place.
use Rattle.std.specs.Prelude.{◌≡◌, ℕ, ◌+◌, ◌≤◌, max, Bool, true, false, refl}
use Rattle.std.proofs.Common.{ap, subst, sym, add-one, arith}
use Rattle.model.specs.Net.{Net, Ranges}
use Rattle.model.specs.Layer.{Row, is_shut, next_layer, layer_net}
use Rattle.model.proofs.Layering.{stretch, net_opens, net_shuts}
use Rattle.model.proofs.LayerCalls.{above_all}

pub next_more : (k : ℕ) (layer : ℕ → ℕ) → next_layer (k + 1) layer ≡ max (next_layer k layer) (layer k + 1)
next_more k layer = ap (λ (j : ℕ). next_layer j layer) (add-one k)

pub layer_layered : (size : ℕ) (n : Net) (rows : ℕ → Row) → Ranges n → ((p : ℕ) → n.layer p ≤ p) → (p : ℕ) → (layer_net size n rows).layer p ≤ p
layer_layered size n rows R low p = go (is_shut size n) refl
  where
    next_low : next_layer n.places n.layer ≤ n.places
    next_low = (above_all n.places n.layer).1 n.places (omega (arith, R.ground_some, R.places_all)) (λ i l. omega (arith, low i))

    go : (b : Bool) → is_shut size n ≡ b → (layer_net size n rows).layer p ≤ p
    go true e = subst (λ (m : Net). m.layer p ≤ p) (sym (net_shuts size n rows e)) (low p)
    go false e = subst (λ (m : Net). m.layer p ≤ p) (sym (net_opens size n rows e))
        (stretch (λ x. x ≤ p) n.places (n.places + size) p (next_layer n.places n.layer) (n.layer p) (λ a b. omega (arith, next_low)) (λ d. low p))
