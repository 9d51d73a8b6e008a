use Rattle.std.proofs.Common.{◌≡◌, ℕ, ◌≤◌, Bool, false, ◌&&◌, ltb, length, get_or, map, cond, vec_items, vec_len, sym, ap, ◌∙◌, rules, tests, arith}
use Rattle.model.specs.Sizes.{most_places, most_moves}
use Rattle.formats.specs.Words.{all}
use Rattle.net_text.specs.declared.net.Place.{Place}
use Rattle.net_text.specs.declared.net.Move.{Move}
use Rattle.net_text.specs.Nets.{no_place, no_move}
use Rattle.table.specs.declared.cell.Cell.{Cell}
use Rattle.table.specs.Cells.{cell}
use Rattle.table.specs.Made.{arc_amount, joins}
use Rattle.plant.proofs.Made.{copied, mapped}
use Rattle.table.proofs.Making.{Fits, fits_parts, taken, given, no_spare, some_limits, small_limits, held_by, limit_is, tokens_are, same_net}
use Rattle.table.proofs.Reading.{as_made}
use Rattle.table.proofs.make.make.Goals as goal
use Rattle.table.proofs.make.make.Goals.{After-front-3, at-returns}

pub cells_of-requires : goal.cells_of-requires
cells_of-requires c = ap (all (joins most_places most_moves)) c.deref-2.ensures.value ∙ (fits_parts c.args.net.now (sym c.if-not-is_fit.ensures)).joining

module _ (c : After-front-3) where
  fits : Fits c.args.net.now
  fits = fits_parts c.args.net.now (sym c.if-not-is_fit.ensures)

  places : length (vec_items c.args.net.now.places) ≤ most_places
  places = omega (arith, fits.few_places, c.args.net.now.places.ok.0)

  moves : length (vec_items c.args.net.now.moves) ≤ most_moves
  moves = omega (arith, fits.few_moves, c.args.net.now.moves.ok.0)

  letters : (t : ℕ) → get_or c.front.result t false ≡ (get_or (vec_items c.args.net.now.moves) t no_move).controllable
  letters t =
      copied (λ (x : Move). x.controllable) c.deref.result.now (vec_items c.args.net.now.moves) most_moves c.front.result false c.deref.ensures.value moves
      (c.front.ensures (λ x. x.controllable) (λ x u k. search (rules, tests))) t
      ∙ mapped (λ (x : Move). x.controllable) (vec_items c.args.net.now.moves) no_move t

  limits : (p : ℕ) → get_or c.front-2.result p 1 ≡ get_or (map (λ (x : Place). x.limit) (vec_items c.args.net.now.places)) p 1
  limits =
      copied (λ (x : Place). x.limit) c.deref-3.result.now (vec_items c.args.net.now.places) most_places c.front-2.result 1 c.deref-3.ensures.value places
      (c.front-2.ensures (λ x. x.limit) (λ x u k. search (rules, tests)))

  tokens : (p : ℕ) → get_or c.front-3.result p 0 ≡ (get_or (vec_items c.args.net.now.places) p no_place).tokens
  tokens p =
      copied (λ (x : Place). x.tokens) c.deref-4.result.now (vec_items c.args.net.now.places) most_places c.front-3.result 0 c.deref-4.ensures.value places
      (c.front-3.ensures (λ x. x.tokens) (λ x u k. search (rules, tests))) p
      ∙ mapped (λ (x : Place). x.tokens) (vec_items c.args.net.now.places) no_place p

  takes : (p t : ℕ) → (cell c.cells_of.result p t).take ≡ arc_amount (λ a. a.take) (vec_items c.args.net.now.arcs) p t
  takes p t =
      ap (λ (x : Cell). x.take) (c.cells_of.ensures.cells p t) ∙ taken c.deref-2.result.now p t
      ∙ (λ i. arc_amount (λ a. a.take) (c.deref-2.ensures.value i) p t)

  gives : (p t : ℕ) → (cell c.cells_of.result p t).give ≡ arc_amount (λ a. a.give) (vec_items c.args.net.now.arcs) p t
  gives p t =
      ap (λ (x : Cell). x.give) (c.cells_of.ensures.cells p t) ∙ given c.deref-2.result.now p t
      ∙ (λ i. arc_amount (λ a. a.give) (c.deref-2.ensures.value i) p t)

pub invariant_of-result-clause-spare : goal.invariant_of-result-clause-spare
invariant_of-result-clause-spare c = λ p t h.
    c.cells_of.ensures.cells p t
    ∙ no_spare c.len.result (vec_len c.args.net.now.moves) (vec_len c.args.net.now.places) p t c.len.ensures h c.deref-2.result.now (vec_items c.args.net.now.arcs) c.deref-2.ensures.value (fits c).joining_all

pub invariant_of-result-clause-some_limits : goal.invariant_of-result-clause-some_limits
invariant_of-result-clause-some_limits c = some_limits (vec_items c.args.net.now.places) (fits c).filled c.front-2.result (limits c)

pub invariant_of-result-clause-small_limits : goal.invariant_of-result-clause-small_limits
invariant_of-result-clause-small_limits c = small_limits (vec_items c.args.net.now.places) (fits c).filled c.front-2.result (limits c)

pub invariant_of-result-clause-held : goal.invariant_of-result-clause-held
invariant_of-result-clause-held c = held_by (vec_items c.args.net.now.places) (fits c).filled c.front-2.result (limits c) c.front-3.result (tokens c)

pub returns : goal.returns
returns c =
    let d = (at-returns c).After-front-3 in
    let x = c.args.net.now in
    let ps = vec_items x.places in
    let n = c.len.result in
    let k = c.len-2.result in
    let count : n ≡ length ps = c.len.ensures ∙ x.places.ok.0 in
    as_made x _ _ (sym c.if-not-is_fit.ensures)
    (same_net n k (vec_len x.places) (vec_len x.moves) c.len.ensures c.len-2.ensures _ _ _ _ _ _ _ _
    (λ t. ap (λ (b : Bool). ltb t k && b) (letters d t))
    (λ p t. ap (λ (v : ℕ). cond (ltb p n && ltb t k) v 0) (takes d p t))
    (λ p t. ap (λ (v : ℕ). cond (ltb p n && ltb t k) v 0) (gives d p t))
    (λ p. limit_is ps (fits d).filled c.front-2.result (limits d) n p count))
    (λ i p. tokens_are n p ps c.front-3.result count (tokens d) i)
