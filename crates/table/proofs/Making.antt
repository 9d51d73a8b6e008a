-- A table that is made of a net text is the net that the records say.
use Rattle.std.proofs.Common.{◌≡◌, ℕ, ◌<◌, ◌≤◌, Bool, true, false, cond, ◌&&◌, eqb, ltb, leb, List, [], ◌∷◌, length, get_or, map, vec_items, vec_len, fold, sym, refl, ap, ◌∙◌, ⊎_elim, arith}
use Rattle.std.proofs.lemmas.List.{get_or_past, get_or-map, length-map}
use Rattle.std.proofs.lemmas.Bool.{cases_lt, cond-true, cond-false, lt-ltb, le-ltb, le-leb, leb-true, and_parts, and_from, and_left, ne_eqb}
use Rattle.formats.specs.Words.{all}
use Rattle.formats.specs.ReadNet.{is_net}
use Rattle.net_text.specs.declared.net.Arc.{Arc}
use Rattle.net_text.specs.declared.net.Place.{Place}
use Rattle.net_text.specs.Nets.{no_place}
use Rattle.net_text.specs.declared.net.NetText.{NetText}
use Rattle.net_text.specs.Filled.{is_filled}
use Rattle.model.specs.Sizes.{most_places, most_moves, most_arc, most_limit}
use Rattle.table.specs.declared.cell.Cell.{Cell}
use Rattle.table.specs.Cells.{put, cell_of, none}
use Rattle.table.specs.Tables.{table_net}
use Rattle.table.specs.Made.{arc_amount, joins, some_few, is_fit}
use Rattle.table.proofs.Texts.{joined_parts, filled_parts, all_at}

-- ---- what fits
pub record Fits (x : NetText) : Type 0 where
  pub some_places : 1 ≤ vec_len x.places
  pub few_places : vec_len x.places ≤ most_places
  pub some_moves : 1 ≤ vec_len x.moves
  pub few_moves : vec_len x.moves ≤ most_moves
  pub filled : all is_filled (vec_items x.places) ≡ true
  pub joining : all (joins most_places most_moves) (vec_items x.arcs) ≡ true
  pub joining_all : all (joins (vec_len x.places) (vec_len x.moves)) (vec_items x.arcs) ≡ true

joins_more : (n k : ℕ) → n ≤ most_places → k ≤ most_moves → (xs : List Arc) → all (joins n k) xs ≡ true → all (joins most_places most_moves) xs ≡ true
joins_more n k h m [] e = refl
joins_more n k h m (a ∷ xs) e =
    let u = and_parts (joins n k a) (all (joins n k) xs) e in
    let j = joined_parts n k a u.0 in
    and_from _ _
    (and_from _ _ (lt-ltb a.place most_places (omega (arith, j.0))) (and_from _ _ (lt-ltb a.transition most_moves (omega (arith, j.1))) (and_from _ _ (le-leb a.take most_arc j.2) (le-leb a.give most_arc j.3))))
    (joins_more n k h m xs u.1)

pub fits_parts : (x : NetText) → is_fit x ≡ true → Fits x
fits_parts x e =
    let np = vec_len x.places in
    let nm = vec_len x.moves in
    let u = and_parts (some_few most_places np && some_few most_moves nm) (is_net x.kind && (all is_filled (vec_items x.places) && all (joins np nm) (vec_items x.arcs))) e in
    let c = and_parts (some_few most_places np) (some_few most_moves nm) u.0 in
    let a = and_parts (leb 1 np) (leb np most_places) c.0 in
    let b = and_parts (leb 1 nm) (leb nm most_moves) c.1 in
    let v = and_parts (is_net x.kind) (all is_filled (vec_items x.places) && all (joins np nm) (vec_items x.arcs)) u.1 in
    let w = and_parts (all is_filled (vec_items x.places)) (all (joins np nm) (vec_items x.arcs)) v.1 in
    record {
      some_places = leb-true 1 np a.0;
      few_places = leb-true np most_places a.1;
      some_moves = leb-true 1 nm b.0;
      few_moves = leb-true nm most_moves b.1;
      filled = w.0;
      joining = joins_more np nm (leb-true np most_places a.1) (leb-true nm most_moves b.1) (vec_items x.arcs) w.1;
      joining_all = w.1;
    }

-- ---- arcs: what the cells have is what the arcs say
amounts : (g : Cell → ℕ) (f : Arc → ℕ) → ((a : Arc) → g (record { take = a.take; give = a.give }) ≡ f a) → (p t : ℕ) (v : Cell) (xs : List Arc)
    → g (fold (put p t) v xs) ≡ fold (λ w a. cond (eqb a.place p && eqb a.transition t) (f a) w) (g v) xs
amounts g f same p t v [] = refl
amounts g f same p t v (a ∷ xs) =
    amounts g f same p t (put p t v a) xs
    ∙ ap (λ (w : ℕ). fold (λ u b. cond (eqb b.place p && eqb b.transition t) (f b) u) w xs) (read (eqb a.place p && eqb a.transition t))
  where
    read : (b : Bool) → g (cond b (record { take = a.take; give = a.give }) v) ≡ cond b (f a) (g v)
    read true = same a
    read false = refl

pub taken : (xs : List Arc) (p t : ℕ) → (cell_of xs p t).take ≡ arc_amount (λ a. a.take) xs p t
taken xs p t = amounts (λ c. c.take) (λ a. a.take) (λ a. refl) p t none xs

pub given : (xs : List Arc) (p t : ℕ) → (cell_of xs p t).give ≡ arc_amount (λ a. a.give) xs p t
given xs p t = amounts (λ c. c.give) (λ a. a.give) (λ a. refl) p t none xs

-- ---- arcs: none at a spare place
beyond : (n k p t : ℕ) (v : Cell) → n ≤ p → (xs : List Arc) → all (joins n k) xs ≡ true → fold (put p t) v xs ≡ v
beyond n k p t v h [] e = refl
beyond n k p t v h (a ∷ xs) e =
    let u = and_parts (joins n k a) (all (joins n k) xs) e in
    let j = joined_parts n k a u.0 in
    ap (λ (w : Cell). fold (put p t) w xs) (cond-false _ _ _ (and_left _ _ (ne_eqb a.place p (λ q. omega (arith, j.0)))))
    ∙ beyond n k p t v h xs u.1

pub no_spare : (n k m p t : ℕ) → n ≡ m → n ≤ p → (qs xs : List Arc) → qs ≡ xs → all (joins m k) xs ≡ true → cell_of qs p t ≡ none
no_spare n k m p t e h qs xs q fits = ap (λ (ys : List Arc). cell_of ys p t) q ∙ beyond m k p t none (omega arith) xs fits

-- ---- places and moves: what is copied from their records
module _ (ps : List Place) (fits : all is_filled ps ≡ true) (limits : List ℕ) (l : (p : ℕ) → get_or limits p 1 ≡ get_or (map (λ (q : Place). q.limit) ps) p 1) where
  limit_in : (p : ℕ) → p < length ps → get_or limits p 1 ≡ (get_or ps p no_place).limit
  limit_in p h = l p ∙ get_or-map (λ (q : Place). q.limit) ps p no_place 1 h

  limit_past : (p : ℕ) → length ps ≤ p → get_or limits p 1 ≡ 1
  limit_past p h = l p ∙ get_or_past (map (λ (q : Place). q.limit) ps) p 1 (omega (arith, length-map ps (λ (q : Place). q.limit)))

  parts : (p : ℕ) → p < length ps → (1 ≤ (get_or ps p no_place).limit) × ((get_or ps p no_place).limit ≤ most_limit) × ((get_or ps p no_place).tokens ≤ (get_or ps p no_place).limit)
  parts p h = filled_parts (get_or ps p no_place) (all_at is_filled ps p no_place fits h)

  pub some_limits : (p : ℕ) → 1 ≤ get_or limits p 1
  some_limits p = ⊎_elim (λ h. omega (arith, limit_in p h, (parts p h).0)) (λ h. omega (arith, limit_past p h)) (cases_lt p (length ps))

  pub small_limits : (p : ℕ) → get_or limits p 1 ≤ most_limit
  small_limits p = ⊎_elim (λ h. omega (arith, limit_in p h, (parts p h).1)) (λ h. omega (arith, limit_past p h)) (cases_lt p (length ps))

  -- the tokens are at most the limits
  pub held_by : (tokens : List ℕ) → ((p : ℕ) → get_or tokens p 0 ≡ (get_or ps p no_place).tokens) → (p : ℕ) → get_or tokens p 0 ≤ get_or limits p 1
  held_by tokens t p =
      ⊎_elim
      (λ h. omega (arith, t p, limit_in p h, (parts p h).2))
      (λ h. omega (arith, t p, ap (λ (q : Place). q.tokens) (get_or_past ps p no_place h)))
      (cases_lt p (length ps))

  pub limit_is : (n p : ℕ) → n ≡ length ps → cond (ltb p n) (get_or limits p 1) 0 ≡ cond (ltb p n) (get_or ps p no_place).limit 0
  limit_is n p e =
      ⊎_elim
      (λ h. ap (λ (v : ℕ). cond (ltb p n) v 0) (limit_in p (omega arith)))
      (λ h. cond-false _ _ _ (le-ltb p n h) ∙ sym (cond-false _ _ _ (le-ltb p n h)))
      (cases_lt p n)

pub tokens_are : (n p : ℕ) (ps : List Place) (is : List ℕ) → n ≡ length ps → ((q : ℕ) → get_or is q 0 ≡ (get_or ps q no_place).tokens) → cond (ltb p n) (get_or is p 0) 0 ≡ (get_or ps p no_place).tokens
tokens_are n p ps is e h =
    ⊎_elim
    (λ l. cond-true _ _ _ (lt-ltb p n l) ∙ h p)
    (λ m. cond-false _ _ _ (le-ltb p n m) ∙ sym (ap (λ (q : Place). q.tokens) (get_or_past ps p no_place (omega arith))))
    (cases_lt p n)

-- ---- two tables of the same numbers
pub same_net : (n k m l : ℕ) → n ≡ m → k ≡ l → (c d : ℕ → Bool) (f g : ℕ → ℕ → ℕ) (x y : ℕ → ℕ → ℕ) (u v : ℕ → ℕ)
    → ((t : ℕ) → (ltb t k && c t) ≡ (ltb t k && d t)) → ((p t : ℕ) → cond (ltb p n && ltb t k) (f p t) 0 ≡ cond (ltb p n && ltb t k) (g p t) 0) → ((p t : ℕ) → cond (ltb p n && ltb t k) (x p t) 0 ≡ cond (ltb p n && ltb t k) (y p t) 0)
    → ((p : ℕ) → cond (ltb p n) (u p) 0 ≡ cond (ltb p n) (v p) 0) → table_net n k c f x u ≡ table_net m l d g y v
same_net n k m l e q c d f g x y u v h1 h2 h3 h4 =
    (λ i. record { ground_places = n; places = n; moves = k; controllable = λ t. h1 t i; take = λ p t. h2 p t i; give = λ p t. h3 p t i; limit = λ p. h4 p i; layer = λ p. 0; row = λ p. 0 })
    ∙ (λ i. table_net (e i) (q i) d g y v)
