-- The loop that fills a table of arcs.
use Rattle.std.proofs.Common.{◌≡◌, ℕ, ◌+◌, ◌<◌, ◌≤◌, true, ◌⊎◌, List, [], length, get_or, take, set, replicate, sym, ap, ◌∙◌, inl, inr, ⊎_elim, arith, length-set}
use Rattle.std.proofs.lemmas.List.{get_or-set_same, get_or-set_other, get_or_past, get_or-replicate, length-replicate}
use Rattle.std.proofs.lemmas.List.Sums.{fold_more}
use Rattle.std.proofs.lemmas.Bool.{cases_eq, cases_lt, cond-true, cond-false, eq-eqb, ne_eqb, and_from, and_left, and_right}
use Rattle.formats.specs.Words.{all}
use Rattle.net_text.specs.declared.net.Arc.{Arc}
use Rattle.model.specs.Sizes.{most_places, most_moves, most_arc}
use Rattle.table.specs.declared.cell.Cell.{Cell}
use Rattle.table.specs.Cells.{none, cell, put, cell_of}
use Rattle.table.specs.AsRead.{no_arc}
use Rattle.table.specs.Made.{joins}
use Rattle.table.proofs.Texts.{all_at, joined_parts}

-- the table holds what the first j arcs have
pub record Filled (xs : List Arc) (j : ℕ) (cs : List (List Cell)) : Type 0 where
  pub cells : (p t : ℕ) → cell cs p t ≡ cell_of (take j xs) p t
  pub takes : (p t : ℕ) → (cell cs p t).take ≤ most_arc
  pub gives : (p t : ℕ) → (cell cs p t).give ≤ most_arc
  pub long : length cs ≡ most_moves
  pub wide : (t : ℕ) → t < most_moves → length (get_or cs t []) ≡ most_places

abbrev pub blank : List (List Cell)
blank = replicate most_moves (replicate most_places none)

row_none : (p : ℕ) → get_or (replicate most_places none) p none ≡ none
row_none p = ⊎_elim (get_or-replicate most_places p none none) (λ h. get_or_past (replicate most_places none) p none h) (cases_lt p most_places)

blank_none : (p t : ℕ) → cell blank p t ≡ none
blank_none p t =
    ⊎_elim
    (λ l. ap (λ (r : List Cell). get_or r p none) (get_or-replicate most_moves t (replicate most_places none) [] l) ∙ row_none p)
    (λ h. ap (λ (r : List Cell). get_or r p none) (get_or_past blank t [] h))
    (cases_lt t most_moves)

pub filled_none : (xs : List Arc) → Filled xs 0 blank
filled_none xs = record {
  cells = blank_none;
  takes = λ p t. omega (arith, ap (λ (c : Cell). c.take) (blank_none p t));
  gives = λ p t. omega (arith, ap (λ (c : Cell). c.give) (blank_none p t));
  long = length-replicate most_moves (replicate most_places none);
  wide = λ t l. ap length (get_or-replicate most_moves t (replicate most_places none) [] l) ∙ length-replicate most_places none;
}

-- one cell of a table is set
module _ (cs : List (List Cell)) (p t : ℕ) (v : Cell) (in' : t < length cs) where
  abbrev with_cell : List (List Cell)
  with_cell = set cs t (set (get_or cs t []) p v)

  cell_here : p < length (get_or cs t []) → cell with_cell p t ≡ v
  cell_here m = ap (λ (r : List Cell). get_or r p none) (get_or-set_same cs t _ [] in') ∙ get_or-set_same (get_or cs t []) p v none m

  cell_else : (q u : ℕ) → ((q ≡ p) × (u ≡ t) → ⊥) → cell with_cell q u ≡ cell cs q u
  cell_else q u ne =
      ⊎_elim
      (λ e. ap (λ (k : ℕ). cell with_cell q k) e ∙ ap (λ (r : List Cell). get_or r q none) (get_or-set_same cs t _ [] in')
      ∙ get_or-set_other (get_or cs t []) p q v none (λ s. ne (s, e)) ∙ ap (λ (k : ℕ). cell cs q k) (sym e))
      (λ e. ap (λ (r : List Cell). get_or r q none) (get_or-set_other cs t u _ [] e))
      (cases_eq u t)

  wide_still : (u : ℕ) → length (get_or with_cell u []) ≡ length (get_or cs u [])
  wide_still u =
      ⊎_elim
      (λ e. ap (λ (k : ℕ). length (get_or with_cell k [])) e ∙ ap length (get_or-set_same cs t _ [] in') ∙ length-set (get_or cs t []) p v ∙ ap (λ (k : ℕ). length (get_or cs k [])) (sym e))
      (λ e. ap length (get_or-set_other cs t u _ [] e))
      (cases_eq u t)

both : (a b c d : ℕ) → ((a ≡ b) × (c ≡ d)) ⊎ ((a ≡ b) × (c ≡ d) → ⊥)
both a b c d =
    ⊎_elim
    (λ e. ⊎_elim (λ q. inl (e, q)) (λ n. inr (λ h. n h.1)) (cases_eq c d))
    (λ n. inr (λ h. n h.0))
    (cases_eq a b)

-- an arc is read at its place and move, and nowhere else
put_here : (p t : ℕ) (v : Cell) (a : Arc) → (p ≡ a.place) × (t ≡ a.transition) → put p t v a ≡ record { take = a.take; give = a.give }
put_here p t v a h = cond-true _ _ _ (and_from _ _ (eq-eqb a.place p (sym h.0)) (eq-eqb a.transition t (sym h.1)))

put_else : (p t : ℕ) (v : Cell) (a : Arc) → ((p ≡ a.place) × (t ≡ a.transition) → ⊥) → put p t v a ≡ v
put_else p t v a ne =
    ⊎_elim
    (λ e. cond-false _ _ _ (and_right _ _ (ne_eqb a.transition t (λ q. ne (sym e, sym q)))))
    (λ n. cond-false _ _ _ (and_left _ _ (ne_eqb a.place p n)))
    (cases_eq a.place p)

module _ (xs : List Arc) (j : ℕ) (cs : List (List Cell)) (f : Filled xs j cs) (l : j < length xs) (fits : all (joins most_places most_moves) xs ≡ true) where
  abbrev arc : Arc
  arc = get_or xs j no_arc

  abbrev new : Cell
  new = record { take = arc.take; give = arc.give }

  pub arc_in : (arc.place < most_places) × (arc.transition < most_moves) × (arc.take ≤ most_arc) × (arc.give ≤ most_arc)
  arc_in = joined_parts most_places most_moves arc (all_at (joins most_places most_moves) xs j no_arc fits l)

  pub move_in : arc.transition < length cs
  move_in = omega (arith, arc_in.1, f.long)

  pub place_in : arc.place < length (get_or cs arc.transition [])
  place_in = omega (arith, arc_in.0, f.wide arc.transition arc_in.1)

  abbrev filled : List (List Cell)
  filled = with_cell cs arc.place arc.transition new move_in

  here : cell filled arc.place arc.transition ≡ new
  here = cell_here cs arc.place arc.transition new move_in place_in

  at_here : (p t : ℕ) → (p ≡ arc.place) × (t ≡ arc.transition) → cell filled p t ≡ new
  at_here p t h = (λ i. cell filled (h.0 i) (h.1 i)) ∙ here

  elsewhere : (p t : ℕ) → ((p ≡ arc.place) × (t ≡ arc.transition) → ⊥) → cell filled p t ≡ cell cs p t
  elsewhere p t ne = cell_else cs arc.place arc.transition new move_in p t ne

  pub filled_more : Filled xs (j + 1) (set cs arc.transition (set (get_or cs arc.transition []) arc.place new))
  filled_more = record {
    cells = λ p t.
        ⊎_elim
        (λ h. at_here p t h ∙ sym (fold_more (put p t) none xs j no_arc l ∙ put_here p t _ arc h))
        (λ ne. elsewhere p t ne ∙ f.cells p t ∙ sym (fold_more (put p t) none xs j no_arc l ∙ put_else p t _ arc ne))
        (both p arc.place t arc.transition);
    takes = λ p t.
        ⊎_elim
        (λ h. omega (arith, ap (λ (c : Cell). c.take) (at_here p t h), arc_in.2))
        (λ ne. omega (arith, ap (λ (c : Cell). c.take) (elsewhere p t ne), f.takes p t))
        (both p arc.place t arc.transition);
    gives = λ p t.
        ⊎_elim
        (λ h. omega (arith, ap (λ (c : Cell). c.give) (at_here p t h), arc_in.3))
        (λ ne. omega (arith, ap (λ (c : Cell). c.give) (elsewhere p t ne), f.gives p t))
        (both p arc.place t arc.transition);
    long = length-set cs arc.transition _ ∙ f.long;
    wide = λ t h. wide_still cs arc.place arc.transition new move_in t ∙ f.wide t h;
  }
