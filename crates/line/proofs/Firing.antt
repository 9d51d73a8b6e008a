-- What a line answers: only the place before a move, or the one after it, can stop it.
use Rattle.std.proofs.Common.{◌≡◌, ℕ, ◌+◌, ◌-◌, ◌<◌, ◌≤◌, Bool, true, false, cond, ◌&&◌, eqb, ltb, leb, None, Some, Ok, List, length, get_or, slice_set, sym, refl, ◌∙◌, ⊎_elim, ◌⊎◌, inl, inr, arith}
use Rattle.std.specs.Bool.{then_some}
use Rattle.std.proofs.lemmas.Bool.Decides.{nat_tests}
use Rattle.std.proofs.lemmas.Bool.{lt-ltb, le-ltb, cond-true, cond-false, eq-eqb, ne_eqb, cases_eq}
use Rattle.std.proofs.lemmas.List.{get_or-set_same, get_or-set_other}
use Rattle.model.specs.Net.{Net}
use Rattle.model.specs.Plant.{short_place, over_place, begin_answer, finish_answer, back_answer, begun, finished, gone_back}
use Rattle.plant.proofs.Answering.{begins, fits}
use Rattle.line.specs.declared.slot.Slot.{Slot}
use Rattle.plant.proofs.Lowest.{lowest_at, lowest_none}
use Rattle.model.specs.Sizes.{most_limit}
use Rattle.line.specs.Lines.{line_net, net_of, tokens_of}
use Rattle.line.specs.Slots.{none, slot}
use Rattle.line.specs.declared.line.Line.{Line}

module _ (s : Line) (t : ℕ) where
  abbrev pub k : ℕ
  k = s.count

  abbrev pub net : Net
  net = net_of s

  abbrev pub held : ℕ → ℕ
  held = tokens_of s

  abbrev pub limit : ℕ → ℕ
  limit p = (slot s.slots p).limit

  abbrev pub tokens : ℕ → ℕ
  tokens p = (slot s.slots p).tokens

  -- no place is the source of the move, or p is
  pub short_none : cond (leb 1 t && ltb t (k + 1)) (Some (t - 1)) None ≡ None → short_place net held t ≡ None
  short_none e = lowest_none (λ p. ltb (held p) (net.take p t)) k (λ p l. le-ltb (held p) (net.take p t) (grind (arith, nat_tests)))

  pub short_is : (p : ℕ) → p < k → p + 1 ≡ t → short_place net held t ≡ then_some (eqb (tokens p) 0) p
  short_is p l here = go (eqb (tokens p) 0) refl
    where
      go : (b : Bool) → eqb (tokens p) 0 ≡ b → short_place net held t ≡ then_some b p
      go true e =
          lowest_at (λ q. ltb (held q) (net.take q t)) k p l
          (λ q m. le-ltb (held q) (net.take q t) (grind (arith, nat_tests))) (lt-ltb (held p) (net.take p t) (grind (arith, nat_tests)))
      go false e = lowest_none (λ q. ltb (held q) (net.take q t)) k (λ q m. le-ltb (held q) (net.take q t) (grind (arith, nat_tests)))

  -- of the move's gives or takes, added: no place gets any, or the place p gets one
  module _ (added : ℕ → ℕ) where
    pub over_none : ((q : ℕ) → q < k → added q ≡ 0) → over_place net held added ≡ None
    over_none zero' = lowest_none (λ q. ltb (net.limit q) (held q + added q)) k (λ q m. le-ltb (net.limit q) (held q + added q) (grind (arith, nat_tests, s.held q, zero' q m)))

    pub over_is : (p : ℕ) → p < k → added p ≡ 1 → ((q : ℕ) → (q ≡ p → ⊥) → added q ≡ 0) → over_place net held added ≡ then_some (eqb (tokens p) (limit p)) p
    over_is p l here else' = go (eqb (tokens p) (limit p)) refl
      where
        go : (b : Bool) → eqb (tokens p) (limit p) ≡ b → over_place net held added ≡ then_some b p
        go true e =
            lowest_at (λ q. ltb (net.limit q) (held q + added q)) k p l
            (λ q m. le-ltb (net.limit q) (held q + added q) (grind (arith, nat_tests, s.held q, else' q (λ z. absurd (omega arith)))))
            (lt-ltb (net.limit p) (held p + added p) (grind (arith, nat_tests, here)))
        go false e =
            lowest_none (λ q. ltb (net.limit q) (held q + added q)) k (λ q m. le-ltb (net.limit q) (held q + added q) (at q m (cases_eq q p)))
          where
            at : (q : ℕ) → q < k → (q ≡ p) ⊎ (q ≡ p → ⊥) → held q + added q ≤ net.limit q
            at q m (inl z) = rw z (grind (arith, nat_tests, s.held p, here))
            at q m (inr z) = grind (arith, nat_tests, s.held q, else' q z)

  pub over_take_none : cond (leb 1 t && ltb t (k + 1)) (Some (t - 1)) None ≡ None → over_place net held (λ p. net.take p t) ≡ None
  over_take_none e = over_none (λ p. net.take p t) (λ q m. grind (arith, nat_tests))

  pub over_take_is : (p : ℕ) → p < k → p + 1 ≡ t → over_place net held (λ p. net.take p t) ≡ then_some (eqb (tokens p) (limit p)) p
  over_take_is p l here = over_is (λ p. net.take p t) p l (grind (arith, nat_tests)) (λ q z. grind (arith, nat_tests))

  pub over_give_none : cond (ltb t k) (Some t) None ≡ None → over_place net held (λ p. net.give p t) ≡ None
  over_give_none e = over_none (λ p. net.give p t) (λ q m. grind (arith, nat_tests))

  pub over_give_is : (p : ℕ) → p < k → p ≡ t → over_place net held (λ p. net.give p t) ≡ then_some (eqb (tokens p) (limit p)) p
  over_give_is p l here = over_is (λ p. net.give p t) p l (grind (arith, nat_tests)) (λ q z. grind (arith, nat_tests))

  -- what an accepted call tells of the place that it changes
  pub begin_ok : Ok tt ≡ begin_answer net held t → (p : ℕ) → p + 1 ≡ t → (p < k) × (1 ≤ tokens p)
  begin_ok e p here =
      let b : (t < k + 1) × ((q : ℕ) → q < k → net.take q t ≤ held q) = begins net held t e in
      let l : p < k = omega (arith, b.0) in
      (l, grind (arith, nat_tests, b.1 p l))

  pub back_ok : Ok tt ≡ back_answer net held t → (p : ℕ) → p + 1 ≡ t → (p < k) × (tokens p + 1 ≤ limit p)
  back_ok e p here =
      let b : (t < k + 1) × ((q : ℕ) → q < k → held q + net.take q t ≤ net.limit q) = fits net held (λ q. net.take q t) t e in
      let l : p < k = omega (arith, b.0) in
      (l, grind (arith, nat_tests, b.1 p l))

  pub finish_ok : Ok tt ≡ finish_answer net held t → (p : ℕ) → p < k → p ≡ t → tokens p + 1 ≤ limit p
  finish_ok e p l here =
      let b : (t < k + 1) × ((q : ℕ) → q < k → held q + net.give q t ≤ net.limit q) = fits net held (λ q. net.give q t) t e in
      grind (arith, nat_tests, b.1 p l)

-- one place q has other tokens: x of them, in the slot v
module _ (s : Line) (q : ℕ) (v : Slot) (x : ℕ) (is : v ≡ record { limit = (slot s.slots q).limit; tokens = x }) (in' : q < length s.slots) where
  abbrev pub changed : List Slot
  changed = slice_set s.slots q v

  pub slot_changed : (p : ℕ) → slot changed p ≡ cond (eqb p q) (record { limit = (slot s.slots q).limit; tokens = x }) (slot s.slots p)
  slot_changed p =
      ⊎_elim
      (λ e. rw e (get_or-set_same s.slots q v none in') ∙ is ∙ sym (cond-true (eqb p q) _ _ (eq-eqb p q e)))
      (λ ne. get_or-set_other s.slots q p v none ne ∙ sym (cond-false (eqb p q) _ _ (ne_eqb p q ne)))
      (cases_eq p q)

  pub limit_changed : (p : ℕ) → (slot changed p).limit ≡ (slot s.slots p).limit
  limit_changed p = ⊎_elim (λ e. rw e (rw (slot_changed q) (grind (arith, nat_tests)))) (λ (ne : p ≡ q → ⊥). rw (slot_changed p) (grind (arith, nat_tests))) (cases_eq p q)

  pub some_changed : (p : ℕ) → p < s.count → 1 ≤ (slot changed p).limit
  some_changed p l = omega (arith, limit_changed p, s.some_limits p l)

  pub small_changed : (p : ℕ) → (slot changed p).limit ≤ most_limit
  small_changed p = omega (arith, limit_changed p, s.small_limits p)

  pub tokens_here : (slot changed q).tokens ≡ x
  tokens_here = rw (slot_changed q) (grind (arith, nat_tests))

  pub tokens_else : (p : ℕ) → (p ≡ q → ⊥) → (slot changed p).tokens ≡ (slot s.slots p).tokens
  tokens_else p ne = rw (slot_changed p) (grind (arith, nat_tests))

  pub held_changed : x ≤ (slot s.slots q).limit → (p : ℕ) → (slot changed p).tokens ≤ (slot changed p).limit
  held_changed few p =
      ⊎_elim
      (λ e. rw e (omega (arith, limit_changed q, tokens_here)))
      (λ ne. omega (arith, limit_changed p, tokens_else p ne, s.held p))
      (cases_eq p q)

  pub same_net : line_net s.count (λ p. (slot changed p).limit) (λ t. get_or s.controllable t false) ≡ net_of s
  same_net = λ i. line_net s.count (λ p. limit_changed p i) (λ t. get_or s.controllable t false)

  -- the tokens are as g says
  pub moved : (g : ℕ → ℕ) → q < s.count → g q ≡ x → ((p : ℕ) → (p ≡ q → ⊥) → g p ≡ tokens_of s p) → (λ p. cond (ltb p s.count) (slot changed p).tokens 0) ≡ g
  moved g l here else' = λ i p. at p i
    where
      at : (p : ℕ) → cond (ltb p s.count) (slot changed p).tokens 0 ≡ g p
      at p =
          ⊎_elim
          (λ e. rw e (grind (arith, nat_tests, tokens_here, here)))
          (λ ne. grind (arith, nat_tests, tokens_else p ne, else' p ne))
          (cases_eq p q)

module _ (s : Line) (t : ℕ) where
  -- the tokens after an accepted call, where the place q is the one that it changes
  pub begun_is : (e : Ok tt ≡ begin_answer (net_of s) (tokens_of s) t) (q : ℕ) → q + 1 ≡ t → (v : Slot) (is : v ≡ record { limit = (slot s.slots q).limit; tokens = (slot s.slots q).tokens - 1 }) (in' : q < length s.slots)
      → (λ p. cond (ltb p s.count) (slot (changed s q v ((slot s.slots q).tokens - 1) is in') p).tokens 0) ≡ begun (net_of s) (tokens_of s) t
  begun_is e q at v is in' =
      moved s q v _ is in' (begun (net_of s) (tokens_of s) t) (begin_ok s t e q at).0
      (rw (← e) (let l : q < s.count = (begin_ok s t e q at).0 in grind (arith, nat_tests)))
      (λ p ne. rw (← e) (grind (arith, nat_tests)))

  pub gone_back_is : (e : Ok tt ≡ back_answer (net_of s) (tokens_of s) t) (q : ℕ) → q + 1 ≡ t → (v : Slot) (is : v ≡ record { limit = (slot s.slots q).limit; tokens = (slot s.slots q).tokens + 1 }) (in' : q < length s.slots)
      → (λ p. cond (ltb p s.count) (slot (changed s q v ((slot s.slots q).tokens + 1) is in') p).tokens 0) ≡ gone_back (net_of s) (tokens_of s) t
  gone_back_is e q at v is in' =
      moved s q v _ is in' (gone_back (net_of s) (tokens_of s) t) (back_ok s t e q at).0
      (rw (← e) (let l : q < s.count = (back_ok s t e q at).0 in grind (arith, nat_tests)))
      (λ p ne. rw (← e) (grind (arith, nat_tests)))

  pub finished_is : (e : Ok tt ≡ finish_answer (net_of s) (tokens_of s) t) (q : ℕ) → q < s.count → q ≡ t → (v : Slot) (is : v ≡ record { limit = (slot s.slots q).limit; tokens = (slot s.slots q).tokens + 1 }) (in' : q < length s.slots)
      → (λ p. cond (ltb p s.count) (slot (changed s q v ((slot s.slots q).tokens + 1) is in') p).tokens 0) ≡ finished (net_of s) (tokens_of s) t
  finished_is e q l at v is in' =
      moved s q v _ is in' (finished (net_of s) (tokens_of s) t) l (rw (← e) (grind (arith, nat_tests))) (λ p ne. rw (← e) (grind (arith, nat_tests)))
