-- What is made of the records of a line: numbers within their ranges, and the net and tokens that they tell of.
use Rattle.std.proofs.Common.{◌≡◌, ℕ, zero, suc, ◌<◌, ◌≤◌, Bool, Decides, true, cond, ◌&&◌, ltb, leb, List, [], ◌∷◌, length, get_or, sym, refl, ap, ◌∙◌, ⊎_elim, arith}
use Rattle.std.proofs.lemmas.List.{get_or_past}
use Rattle.std.proofs.lemmas.Bool.{cases_lt, lt-ltb, le-ltb, cond-true, cond-false, and_parts, and_from, leb-true, le-leb}
use Rattle.formats.specs.Words.{all}
use Rattle.net_text.specs.Filled.{is_filled}
use Rattle.model.specs.Sizes.{most_limit}
use Rattle.net_text.specs.declared.net.Place.{Place}
use Rattle.net_text.specs.Nets.{no_place}
use Rattle.line.specs.Lines.{line_net}
use Rattle.net_text.specs.Nets.{limit_at, tokens_at}
use Rattle.line.specs.declared.slot.Slot.{Slot}
use Rattle.line.specs.Slots.{slot}
use Rattle.line.specs.Making.{Slots}
use Rattle.line.specs.Making as making

slot_from : (p : Place) → is_filled p ≡ true → making.Slot p
slot_from p e =
    let u = and_parts (leb 1 p.limit) (leb p.limit most_limit && leb p.tokens p.limit) e in
    let v = and_parts (leb p.limit most_limit) (leb p.tokens p.limit) u.1 in
    record { some = leb-true 1 p.limit u.0; small = leb-true p.limit most_limit v.0; within = leb-true p.tokens p.limit v.1 }

slot_to : (p : Place) → making.Slot p → is_filled p ≡ true
slot_to p s = and_from _ _ (le-leb 1 p.limit s.some) (and_from _ _ (le-leb p.limit most_limit s.small) (le-leb p.tokens p.limit s.within))

slots_from : (ps : List Place) → all is_filled ps ≡ true → Slots ps
slots_from [] e p l = absurd (omega arith)
slots_from (x ∷ xs) e zero l = slot_from x (and_parts (is_filled x) (all is_filled xs) e).0
slots_from (x ∷ xs) e (suc p) l = slots_from xs (and_parts (is_filled x) (all is_filled xs) e).1 p (omega arith)

slots_to : (ps : List Place) → Slots ps → all is_filled ps ≡ true
slots_to [] s = refl
slots_to (x ∷ xs) s = and_from _ _ (slot_to x (s 0 (omega arith))) (slots_to xs (λ p l. s (suc p) (omega arith)))

pub slots_decided : (r : Bool) (ps : List Place) → r ≡ all is_filled ps → Decides r (Slots ps)
slots_decided r ps e = (λ h. slots_from ps (sym e ∙ h), λ s. e ∙ slots_to ps s)

module _ (ps : List Place) (us : List Slot) (slots : Slots ps) (read : (p : ℕ) → slot us p ≡ record { limit = limit_at ps p; tokens = tokens_at ps p }) where
  limits : (p : ℕ) → (slot us p).limit ≡ limit_at ps p
  limits p = ap (λ (x : Slot). x.limit) (read p)

  tokens : (p : ℕ) → (slot us p).tokens ≡ tokens_at ps p
  tokens p = ap (λ (x : Slot). x.tokens) (read p)

  past : (p : ℕ) → length ps ≤ p → get_or ps p no_place ≡ no_place
  past p h = get_or_past ps p no_place h

  pub some_made : (p : ℕ) → p < length ps → 1 ≤ (slot us p).limit
  some_made p h = omega (arith, limits p, (slots p h).some)

  pub small_made : (p : ℕ) → (slot us p).limit ≤ most_limit
  small_made p =
      ⊎_elim (λ h. omega (arith, limits p, (slots p h).small)) (λ h. omega (arith, limits p, ap (λ (x : Place). x.limit) (past p h))) (cases_lt p (length ps))

  pub held_made : (p : ℕ) → (slot us p).tokens ≤ (slot us p).limit
  held_made p =
      ⊎_elim (λ h. omega (arith, limits p, tokens p, (slots p h).within)) (λ h. omega (arith, tokens p, ap (λ (x : Place). x.tokens) (past p h))) (cases_lt p (length ps))

  pub tokens_made : (k : ℕ) → k ≡ length ps → (λ p. cond (ltb p k) (slot us p).tokens 0) ≡ tokens_at ps
  tokens_made k e = λ i p. at p i
    where
      at : (p : ℕ) → cond (ltb p k) (slot us p).tokens 0 ≡ tokens_at ps p
      at p =
          ⊎_elim
          (λ h. cond-true (ltb p k) _ 0 (lt-ltb p k h) ∙ tokens p)
          (λ h. cond-false (ltb p k) _ 0 (le-ltb p k h) ∙ sym (ap (λ (x : Place). x.tokens) (past p (omega arith))))
          (cases_lt p k)

  -- a line's net is told by its count, its limits and its letters
  pub net_made : (j k : ℕ) (a b : ℕ → Bool) → j ≡ k → ((t : ℕ) → a t ≡ b t) → line_net j (λ p. (slot us p).limit) a ≡ line_net k (limit_at ps) b
  net_made j k a b e letters = λ i. line_net (e i) (λ p. limits p i) (λ t. letters t i)
