-- A net that is proper fits the plant of its kind, and the plant's tokens are those of the text.
use Rattle.std.proofs.Common.{◌≡◌, ℕ, zero, suc, ◌+◌, ◌%◌, ◌<◌, inl, inr, Bool, true, false, List, [], ◌∷◌, map, length, get_or, vec_items, vec_len, sym, refl, ap, ◌∙◌, subst, arith}
use Rattle.std.specs.List.{AllByRecursion}
use Rattle.std.proofs.lemmas.List.{length-map, nil_from_length}
use Rattle.std.proofs.lemmas.Bool.{both_ways, and_from, le-leb, lt-ltb}
use Rattle.model.specs.Sizes.{most_places, most_moves, most_arc, most_limit}
use Rattle.formats.specs.declared.kind.Kind.{Kind}
use Rattle.formats.specs.declared.kind.Kind.TheVariants.{Net, Bank, Line}
use Rattle.formats.specs.Words.{all}
use Rattle.formats.specs.Texts.{Proper}
use Rattle.formats.specs.NetText as said
use Rattle.formats.specs.NetText.{Filled, Joins, Shaped}
use Rattle.formats.specs.NetClauses.{net_meaning}
use Rattle.formats.specs.ReadNet.{is_net}
use Rattle.net_text.specs.declared.net.Place.{Place}
use Rattle.net_text.specs.declared.net.Move.{Move}
use Rattle.net_text.specs.declared.net.Arc.{Arc}
use Rattle.net_text.specs.declared.net.NetText.{NetText}
use Rattle.net_text.specs.Nets.{place_of, move_of, arc_of, net_of}
use Rattle.net_text.specs.Nets.{no_place}
use Rattle.table.specs.Made.{is_filled, joins, is_fit}
use Rattle.line.specs.Making.{LineText}
use Rattle.bank.specs.Making as banks

-- ---- what holds of all records holds of each
each_map : {X Y : Type 0} (P : Y → Type 0) (f : X → Y) (xs : List X) (d : X) → AllByRecursion P (map f xs) → (i : ℕ) → i < length xs → P (f (get_or xs i d))
each_map P f [] d h i l = absurd (omega arith)
each_map P f (x ∷ xs) d h zero l = h.0
each_map P f (x ∷ xs) d h (suc i) l = each_map P f xs d h.1 i (omega arith)

-- a test that passes wherever P holds passes on all
all_map : {X Y : Type 0} (P : Y → Type 0) (f : X → Y) (t : X → Bool) → ((x : X) → P (f x) → t x ≡ true) → (xs : List X) → AllByRecursion P (map f xs) → all t xs ≡ true
all_map P f t by [] h = refl
all_map P f t by (x ∷ xs) h = and_from (t x) (all t xs) (by x h.0) (all_map P f t by xs h.1)

module _ (bs : List ℕ) (n : NetText) (p : Proper net_meaning (net_of bs n)) where
  abbrev ps : List Place
  ps = vec_items n.places

  abbrev ms : List Move
  ms = vec_items n.moves

  places_counted : length (net_of bs n).places ≡ length ps
  places_counted = length-map ps (place_of bs)

  moves_counted : length (net_of bs n).moves ≡ length ms
  moves_counted = length-map ms (move_of bs)

  shaped_by : (k : Kind) → n.kind ≡ k → Shaped k (net_of bs n).places (net_of bs n).moves
  shaped_by k e = subst (λ (j : Kind). Shaped j (net_of bs n).places (net_of bs n).moves) e p.complete.2

  -- ---- a net
  pub fits_table : n.kind ≡ Net → is_fit n ≡ true
  fits_table e =
      let np : vec_len n.places ≡ length (net_of bs n).places = n.places.ok.0 ∙ sym places_counted in
      let nm : vec_len n.moves ≡ length (net_of bs n).moves = n.moves.ok.0 ∙ sym moves_counted in
      and_from _ _
      (and_from _ _ (and_from _ _ (le-leb 1 (vec_len n.places) (omega (arith, p.complete.0))) (le-leb (vec_len n.places) most_places (omega (arith, p.right.few_places))))
      (and_from _ _ (le-leb 1 (vec_len n.moves) (omega (arith, p.complete.1))) (le-leb (vec_len n.moves) most_moves (omega (arith, p.right.few_moves)))))
      (and_from _ _ (ap is_net e)
      (and_from _ _ (all_map Filled (place_of bs) is_filled filled ps p.right.filled)
      (all_map (Joins (length (net_of bs n).places) (length (net_of bs n).moves)) arc_of (joins (vec_len n.places) (vec_len n.moves))
      (joined np nm) (vec_items n.arcs) p.right.joining)))
    where
      filled : (q : Place) → Filled (place_of bs q) → is_filled q ≡ true
      filled q h = and_from _ _ (le-leb 1 q.limit h.1) (and_from _ _ (le-leb q.limit most_limit (omega (arith, h.2))) (le-leb q.tokens q.limit h.0))

      joined : vec_len n.places ≡ length (net_of bs n).places → vec_len n.moves ≡ length (net_of bs n).moves
          → (a : Arc) → Joins (length (net_of bs n).places) (length (net_of bs n).moves) (arc_of a) → joins (vec_len n.places) (vec_len n.moves) a ≡ true
      joined np nm a h =
          and_from _ _ (lt-ltb a.place (vec_len n.places) (omega (arith, h.0)))
          (and_from _ _ (lt-ltb a.transition (vec_len n.moves) (omega (arith, h.1)))
          (and_from _ _ (le-leb a.take most_arc (omega (arith, h.2))) (le-leb a.give most_arc (omega (arith, h.3)))))

  -- no arcs, where the kind is not a net
  unarced : is_net n.kind ≡ false → vec_items n.arcs ≡ []
  unarced h =
      elim p.right.plain [
        | inl e ↦ absurd (both_ways (is_net n.kind) h (ap is_net e))
        | inr e ↦ nil_from_length (vec_items n.arcs) (sym (length-map (vec_items n.arcs) arc_of) ∙ ap length e)
      ]

  -- ---- a line
  pub fits_line : n.kind ≡ Line → LineText n
  fits_line e =
      let s = shaped_by Line e in
      record {
        kind = e;
        some = omega (arith, p.complete.0, places_counted);
        moves = sym moves_counted ∙ s ∙ ap (λ (k : ℕ). k + 1) places_counted;
        few = omega (arith, p.right.few_moves, moves_counted);
        slots = λ i l. let f = each_map Filled (place_of bs) ps no_place p.right.filled i l in record { some = f.1; small = omega (arith, f.2); within = f.0 };
        plain = unarced (ap is_net e);
      }

  -- ---- a bank
  pub fits_bank : n.kind ≡ Bank → banks.BankText n
  fits_bank e =
      let s = shaped_by Bank e in
      let whole : length ps % 4 ≡ 0 = ap (λ (k : ℕ). k % 4) (sym places_counted) ∙ s.0 in
      record {
        shaped = record {
          kind = e;
          some = omega (arith, p.complete.0, places_counted, whole);
          few = omega (arith, p.right.few_places, places_counted);
          whole = whole;
          moves = sym moves_counted ∙ s.1 ∙ places_counted;
        };
        single = λ i l.
            let f = each_map Filled (place_of bs) ps no_place p.right.filled i l in
            let one = each_map (λ (q : said.Place). q.limit ≡ 1) (place_of bs) ps no_place s.2 i l in
            (one, omega (arith, f.0));
        plain = unarced (ap is_net e);
      }
