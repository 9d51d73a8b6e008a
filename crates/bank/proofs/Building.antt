-- A bank from records: the word of what a test says of them, and the net and tokens of what is made.
use Rattle.std.proofs.Common.{◌≡◌, ℕ, ◌+◌, ◌^◌, ◌<◌, ◌≤◌, Bool, Decides, true, false, cond, ◌&&◌, eqb, ltb, leb, List, [], ◌∷◌, suc, length, map, get_or, sym, ap, refl, ◌∙◌, ⊎_elim, arith}
use Rattle.std.proofs.lemmas.Bool.Decides.{nat_tests}
use Rattle.net_text.specs.declared.net.Place.{Place}
use Rattle.net_text.specs.declared.net.Move.{Move}
use Rattle.net_text.specs.Nets.{no_place}
use Rattle.std.proofs.lemmas.Bool.{cases_lt, cases_eq}
use Rattle.std.proofs.lemmas.List.Folds.{list_all_at}
use Rattle.std.specs.List.{list_all}
use Rattle.std.proofs.lemmas.List.{get_or_past, get_or-map}
use Rattle.bank.specs.Banks.{bit, letter, bank_net}
use Rattle.net_text.specs.Nets.{tokens_at, letter_at}
use Rattle.bank.specs.Making.{AllSingle}
use Rattle.bank.specs.Words.{bit_most, next_inside_word}

-- the word w has as its bits what the test, which answers by R, says of the first i items
pub record BitsTo {T : Type 0} (R : T → Bool → Type 0) (xs : List T) (i w : ℕ) : Type 0 where
  pub inside : w < 2 ^ i
  pub bits : (f : T → Bool) → ((x : T) (b : Bool) → R x b → b ≡ f x) → (k : ℕ) → letter w k ≡ (ltb k i && get_or (map f xs) k false)

module _ (g : ℕ → Bool) (w i : ℕ) (bits : (k : ℕ) → letter w k ≡ (ltb k i && g k)) where
  set_more : (r : ℕ) → ((q : ℕ) → bit r q ≡ cond (eqb q i) 1 (bit w q)) → g i ≡ true → (k : ℕ) → letter r k ≡ (ltb k (i + 1) && g k)
  set_more r set e k = ⊎_elim (λ (same : k ≡ i). rw same (grind (arith, nat_tests, set i))) (λ ne. grind (arith, nat_tests, set k, bits k)) (cases_eq k i)

  still_more : g i ≡ false → (k : ℕ) → letter w k ≡ (ltb k (i + 1) && g k)
  still_more e k = ⊎_elim (λ (same : k ≡ i). rw same (grind (arith, nat_tests, bits i))) (λ ne. grind (arith, nat_tests, bits k)) (cases_eq k i)

module _ {T : Type 0} (R : T → Bool → Type 0) (xs : List T) (i w : ℕ) (x : T) (b : Bool) (to : BitsTo R xs i w) (l : i < length xs) (at : x ≡ get_or xs i x) (told : R x b) where
  here : (f : T → Bool) → ((y : T) (a : Bool) → R y a → a ≡ f y) → get_or (map f xs) i false ≡ b
  here f tells = get_or-map f xs i x false l ∙ sym (ap f at) ∙ sym (tells x b told)

  pub bits_set : (r : ℕ) → r < 2 ^ (i + 1) → ((q : ℕ) → bit r q ≡ cond (eqb q i) 1 (bit w q)) → b ≡ true → BitsTo R xs (i + 1) r
  bits_set r inside set e = record { inside = inside; bits = λ f tells. set_more (λ k. get_or (map f xs) k false) w i (to.bits f tells) r set (here f tells ∙ e) }

  pub bits_still : b ≡ false → BitsTo R xs (i + 1) w
  bits_still e = record { inside = next_inside_word w i to.inside; bits = λ f tells. still_more (λ k. get_or (map f xs) k false) w i (to.bits f tells) (here f tells ∙ e) }

-- ---- the places and moves of a net text
abbrev pub single : Place → Bool
single x = eqb x.limit 1 && leb x.tokens 1

singles_at : (ps : List Place) (p : ℕ) → list_all single ps ≡ true → p < length ps → single (get_or ps p no_place) ≡ true
singles_at ps p e l = go (single (get_or ps p no_place)) refl
  where
    go : (b : Bool) → single (get_or ps p no_place) ≡ b → b ≡ true
    go true q = refl
    go false q = sym (list_all_at single ps p no_place l q) ∙ e

singles_to : (ps : List Place) → AllSingle ps → list_all single ps ≡ true
singles_to [] h = refl
singles_to (x ∷ xs) h = grind (arith, nat_tests, h 0 (omega arith), singles_to xs (λ p l. h (suc p) (omega arith)))

pub singles_decided : (r : Bool) (ps : List Place) → r ≡ list_all single ps → Decides r (AllSingle ps)
singles_decided r ps e = (λ h p l. let one : single (get_or ps p no_place) ≡ true = singles_at ps p (sym e ∙ h) l in grind (arith, nat_tests), λ h. e ∙ singles_to ps h)

pub made_net : (k w n : ℕ) (ms : List Move) → k ≡ n → ((t : ℕ) → letter w t ≡ letter_at ms t) → bank_net k (letter w) ≡ bank_net n (letter_at ms)
made_net k w n ms e read = λ i. bank_net (e i) (λ t. read t i)

pub made_tokens : (w : ℕ) (ps : List Place) → AllSingle ps → ((p : ℕ) → letter w p ≡ eqb (tokens_at ps p) 1) → bit w ≡ tokens_at ps
made_tokens w ps one read = λ i p. each p i
  where
    few : (p : ℕ) → tokens_at ps p ≤ 1
    few p = ⊎_elim (λ l. (one p l).1) (λ h. omega (arith, ap (λ (x : Place). x.tokens) (get_or_past ps p no_place h))) (cases_lt p (length ps))

    each : (p : ℕ) → bit w p ≡ tokens_at ps p
    each p = grind (arith, nat_tests, read p, few p, bit_most w p)
