-- The net of a layer adds to the net below the places of its rows and nothing else.
use Rattle.std.proofs.Common.{◌≡◌, ℕ, ◌+◌, ◌-◌, ◌<◌, ◌≤◌, Bool, true, false, cond, not, ◌&&◌, refl, ap, arith}
use Rattle.std.proofs.lemmas.Bool.Decides.{nat_tests}
use Rattle.model.specs.Sizes.{most_all_places, control_limit}
use Rattle.model.specs.Net.{Net}
use Rattle.model.specs.Layer.{Row, is_shut, own_place, next_layer, masked_take, masked_give, layer_net, layer_free}
use Rattle.model.proofs.Layering.{not_own, not_shut, open_net, open_free}
use Rattle.layers.specs.OnTop.{OnTop}

module _ (size : ℕ) (n : Net) (rows : ℕ → Row) (free : ℕ → ℕ) where
  -- a place below is no row's
  as_below : (x y p : ℕ) → p < n.places → cond (own_place size n p) x y ≡ y
  as_below x y p l = ap (λ (b : Bool). cond b x y) (not_own n.places size p l)

  open_top : n.places + size ≤ most_all_places → OnTop size n (open_net size n rows) free (open_free size n free rows)
  open_top few = record {
    same_ground = refl;
    same_moves = refl;
    same_controllable = λ t. refl;
    room = λ l. refl;
    no_room = λ l. absurd (omega (arith, few, l));
    same_take = λ p t l. as_below (masked_take n (rows (p - n.places)) t) (n.take p t) p l;
    same_give = λ p t l. as_below (masked_give n (rows (p - n.places)) t) (n.give p t) p l;
    same_limit = λ p l. as_below control_limit (n.limit p) p l;
    same_layer = λ p l. as_below (next_layer n.places n.layer) (n.layer p) p l;
    same_row = λ p l. as_below (p - n.places) (n.row p) p l;
    same_free = λ p l. as_below (rows (p - n.places)).free (free p) p l;
    own_limit = λ r f l. grind (arith, nat_tests);
    own_layer = λ r f l. grind (arith, nat_tests);
    own_row = λ r f l. grind (arith, nat_tests);
  }

  shut_top : is_shut size n ≡ true → OnTop size n n free free
  shut_top e = record {
    same_ground = refl;
    same_moves = refl;
    same_controllable = λ t. refl;
    room = λ l. grind (arith, nat_tests, e);
    no_room = λ l. refl;
    same_take = λ p t l. refl;
    same_give = λ p t l. refl;
    same_limit = λ p l. refl;
    same_layer = λ p l. refl;
    same_row = λ p l. refl;
    same_free = λ p l. refl;
    own_limit = λ r f l. absurd (grind (arith, nat_tests, e, f, l));
    own_layer = λ r f l. absurd (grind (arith, nat_tests, e, f, l));
    own_row = λ r f l. absurd (grind (arith, nat_tests, e, f, l));
  }

  pub on_top : OnTop size n (layer_net size n rows) free (layer_free size n free rows)
  on_top = go (is_shut size n) refl
    where
      go : (b : Bool) → is_shut size n ≡ b →
          OnTop size n (cond b n (open_net size n rows)) free (λ p. cond (not b && own_place size n p) (rows (p - n.places)).free (free p))
      go true e = shut_top e
      go false e = open_top (not_shut size n e)
