-- What begin, finish and back leave in a table.
use Rattle.std.proofs.Common.{◌≡◌, ℕ, ◌+◌, ◌-◌, ◌<◌, ◌≤◌, cond, ◌&&◌, ltb, List, get_or, Ok, sym, ap, ◌∙◌, ⊎_elim, arith}
use Rattle.std.proofs.lemmas.Bool.{cases_lt, and_from, cond-true, cond-false, lt-ltb, le-ltb, and_left}
use Rattle.model.specs.Plant.{Answer, accepted, begin_answer, finish_answer, back_answer, begun, finished, gone_back}
use Rattle.plant.proofs.Answering.{begins, fits}
use Rattle.table.specs.declared.table.Table.{Table}
use Rattle.table.specs.declared.cell.Cell.{Cell}
use Rattle.table.specs.Cells.{cell}
use Rattle.table.specs.Tables.{net_of, tokens_in, tokens_of}

inside : (n p v : ℕ) → p < n → cond (ltb p n) v 0 ≡ v
inside n p v l = cond-true _ v 0 (lt-ltb p n l)

outside : (n p v : ℕ) → n ≤ p → cond (ltb p n) v 0 ≡ 0
outside n p v h = cond-false _ v 0 (le-ltb p n h)

-- no arc at a missing place
no_arc : (n k p t v : ℕ) → n ≤ p → cond (ltb p n && ltb t k) v 0 ≡ 0
no_arc n k p t v h = cond-false _ v 0 (and_left _ _ (le-ltb p n h))

-- an arc of a place and a move that are there
arc_in : (n k p t v : ℕ) → p < n → t < k → cond (ltb p n && ltb t k) v 0 ≡ v
arc_in n k p t v l m = cond-true _ v 0 (and_from _ _ (lt-ltb p n l) (lt-ltb t k m))

-- the tokens is that a call leaves in s: g at each place, and past the places what was there
module _ (s : Table) (is : List ℕ) (g : ℕ → ℕ) (at : (p : ℕ) → p < s.places → get_or is p 0 ≡ g p) where
  -- what an accepted call a leaves
  after : (a : Answer) → Ok tt ≡ a → ((p : ℕ) → s.places ≤ p → g p ≡ 0) → tokens_in s.places is ≡ (λ p. cond (accepted a) (g p) (tokens_of s p))
  after a ok none = λ i p. (moved p ∙ ap (λ (b : Answer). cond (accepted b) (g p) (tokens_of s p)) ok) i
    where
      moved : (p : ℕ) → cond (ltb p s.places) (get_or is p 0) 0 ≡ g p
      moved p =
          ⊎_elim
          (λ l. inside s.places p (get_or is p 0) l ∙ at p l)
          (λ h. outside s.places p (get_or is p 0) h ∙ sym (none p h))
          (cases_lt p s.places)

  -- no place holds more than its limit
  still_held : ((p : ℕ) → s.places ≤ p → get_or is p 0 ≡ get_or s.tokens p 0) → ((p : ℕ) → g p ≤ (net_of s).limit p) → (p : ℕ) → get_or is p 0 ≤ get_or s.limits p 1
  still_held rest low p =
      ⊎_elim
      (λ l. omega (arith, at p l, low p, inside s.places p (get_or s.limits p 1) l))
      (λ h. omega (arith, rest p h, s.held p))
      (cases_lt p s.places)

-- ---- what is left at each place
module _ (s : Table) (t : ℕ) where
  abbrev pub have : ℕ → ℕ
  have p = get_or s.tokens p 0

  abbrev pub took : ℕ → ℕ
  took p = (cell s.arcs p t).take

  abbrev pub gave : ℕ → ℕ
  gave p = (cell s.arcs p t).give

  free_in : (p : ℕ) → p < s.places → tokens_of s p ≡ have p
  free_in p l = inside s.places p _ l

  take_in : t < s.moves → (p : ℕ) → p < s.places → (net_of s).take p t ≡ took p
  take_in m p l = arc_in s.places s.moves p t _ l m

  give_in : t < s.moves → (p : ℕ) → p < s.places → (net_of s).give p t ≡ gave p
  give_in m p l = arc_in s.places s.moves p t _ l m

  free_none : (p : ℕ) → s.places ≤ p → tokens_of s p ≡ 0
  free_none p h = outside s.places p _ h

  take_none : (p : ℕ) → s.places ≤ p → (net_of s).take p t ≡ 0
  take_none p h = no_arc s.places s.moves p t _ h

  give_none : (p : ℕ) → s.places ≤ p → (net_of s).give p t ≡ 0
  give_none p h = no_arc s.places s.moves p t _ h

  took_none : (p : ℕ) → s.places ≤ p → took p ≡ 0
  took_none p h = ap (λ (c : Cell). c.take) (s.spare p t h)

  gave_none : (p : ℕ) → s.places ≤ p → gave p ≡ 0
  gave_none p h = ap (λ (c : Cell). c.give) (s.spare p t h)

  free_most : (p : ℕ) → tokens_of s p ≤ (net_of s).limit p
  free_most p =
      ⊎_elim
      (λ l. omega (arith, free_in p l, inside s.places p (get_or s.limits p 1) l, s.held p))
      (λ h. omega (arith, free_none p h))
      (cases_lt p s.places)

  module _ (e : Ok tt ≡ begin_answer (net_of s) (tokens_of s) t) where
    abbrev b : (t < s.moves) × ((p : ℕ) → p < s.places → (net_of s).take p t ≤ tokens_of s p)
    b = begins (net_of s) (tokens_of s) t e

    -- an accepted begin finds at each place what it takes there
    pub begin_takes : (p : ℕ) → took p ≤ have p
    begin_takes p =
        ⊎_elim (λ l. omega (arith, b.1 p l, take_in b.0 p l, free_in p l)) (λ h. omega (arith, took_none p h)) (cases_lt p s.places)

    module _ (is : List ℕ) (made : (p : ℕ) → p < s.places → get_or is p 0 ≡ have p - took p) where
      begun_at : (p : ℕ) → p < s.places → get_or is p 0 ≡ tokens_of s p - (net_of s).take p t
      begun_at p l = omega (arith, made p l, take_in b.0 p l, free_in p l)

      pub begun_after : tokens_in s.places is ≡ begun (net_of s) (tokens_of s) t
      begun_after = after s is _ begun_at (begin_answer (net_of s) (tokens_of s) t) e (λ p h. omega (arith, free_none p h))

      pub begun_held : ((p : ℕ) → s.places ≤ p → get_or is p 0 ≡ have p) → (p : ℕ) → get_or is p 0 ≤ get_or s.limits p 1
      begun_held rest = still_held s is _ begun_at rest (λ p. omega (arith, free_most p))

  module _ (e : Ok tt ≡ finish_answer (net_of s) (tokens_of s) t) (is : List ℕ) (made : (p : ℕ) → p < s.places → get_or is p 0 ≡ have p + gave p) where
    abbrev r : (t < s.moves) × ((p : ℕ) → p < s.places → tokens_of s p + (net_of s).give p t ≤ (net_of s).limit p)
    r = fits (net_of s) (tokens_of s) (λ q. (net_of s).give q t) t e

    finished_at : (p : ℕ) → p < s.places → get_or is p 0 ≡ tokens_of s p + (net_of s).give p t
    finished_at p l = omega (arith, made p l, give_in r.0 p l, free_in p l)

    pub finished_after : tokens_in s.places is ≡ finished (net_of s) (tokens_of s) t
    finished_after = after s is _ finished_at (finish_answer (net_of s) (tokens_of s) t) e (λ p h. omega (arith, free_none p h, give_none p h))

    pub finished_held : ((p : ℕ) → s.places ≤ p → get_or is p 0 ≡ have p) → (p : ℕ) → get_or is p 0 ≤ get_or s.limits p 1
    finished_held rest = still_held s is _ finished_at rest (λ p. ⊎_elim (r.1 p) (λ h. omega (arith, free_none p h, give_none p h)) (cases_lt p s.places))

  module _ (e : Ok tt ≡ back_answer (net_of s) (tokens_of s) t) (is : List ℕ) (made : (p : ℕ) → p < s.places → get_or is p 0 ≡ have p + took p) where
    abbrev q : (t < s.moves) × ((p : ℕ) → p < s.places → tokens_of s p + (net_of s).take p t ≤ (net_of s).limit p)
    q = fits (net_of s) (tokens_of s) (λ q. (net_of s).take q t) t e

    gone_back_at : (p : ℕ) → p < s.places → get_or is p 0 ≡ tokens_of s p + (net_of s).take p t
    gone_back_at p l = omega (arith, made p l, take_in q.0 p l, free_in p l)

    pub gone_back_after : tokens_in s.places is ≡ gone_back (net_of s) (tokens_of s) t
    gone_back_after = after s is _ gone_back_at (back_answer (net_of s) (tokens_of s) t) e (λ p h. omega (arith, free_none p h, take_none p h))

    pub gone_back_held : ((p : ℕ) → s.places ≤ p → get_or is p 0 ≡ have p) → (p : ℕ) → get_or is p 0 ≤ get_or s.limits p 1
    gone_back_held rest = still_held s is _ gone_back_at rest (λ p. ⊎_elim (q.1 p) (λ h. omega (arith, free_none p h, take_none p h)) (cases_lt p s.places))
