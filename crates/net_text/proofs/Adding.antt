-- A line that is read adds its place, move or arc to the net.
use Rattle.std.proofs.Common.{◌≡◌, ℕ, ◌+◌, ◌<◌, ◌≤◌, Bool, true, false, cond, ◌&&◌, ◌⊎◌, List, [], ◌∷◌, ◌++◌, map, length, get_or, take, drop, Some, None, Ok, Err, vec_items, codes, Option, Vec, sym, refl, ap, ◌∙◌, subst, inl, inr, arith}
use Rattle.std.specs.declared.alloc.Global.{Global}
use Rattle.std.specs.Str.{bytes_eq}
use Rattle.std.proofs.lemmas.List.{map_push, length_push, get_or_append_left, get_or_push}
use Rattle.std.proofs.lemmas.Bool.{cases_lt, and_parts, false≢true}
use Rattle.formats.specs.declared.fault.TextFault.{TextFault}
use Rattle.formats.specs.Words.{value, index_of, none}
use Rattle.formats.specs.Texts.{Check, first_failed, unless}
use Rattle.formats.specs.NetText as said
use Rattle.formats.specs.NetText.{place_names, move_names}
use Rattle.formats.specs.NetClauses.Shape.{a_place, a_move, an_arc}
use Rattle.formats.specs.ReadNet.{place_checks, move_checks, arc_checks, add_place, add_move, add_arc}
use Rattle.net_text.specs.declared.net.Place.{Place}
use Rattle.net_text.specs.declared.net.Move.{Move}
use Rattle.net_text.specs.declared.net.Arc.{Arc}
use Rattle.net_text.specs.declared.net.NetText.{NetText}
use Rattle.texts.specs.Spans.{span, checked}
use Rattle.net_text.specs.Nets.{place_of, move_of, arc_of, net_of}
use Rattle.texts.specs.Spans.{line_start}
use Rattle.net_text.specs.Nets.{no_place, no_move}
use Rattle.net_text.specs.Reading.{line_read, Locates}

-- ---- the exits
-- what was checked is refused: so is the line
pub checked_refuses : {A B : Type 0} (cs : List Check) (k : ℕ) (a : A) (b : B) (f : TextFault) → Err f ≡ checked cs k a → checked cs k b ≡ Err f
checked_refuses cs k a b f e = go (first_failed cs) e
  where
    go : (o : Option Check) → Err f ≡ unless o k (Ok a) → unless o k (Ok b) ≡ Err f
    go None q = let z : ◌≡◌ {A = ℕ} 0 1 = cc in absurd (omega arith)
    go (Some c) q = cc

checked_passes : {A B : Type 0} (cs : List Check) (k : ℕ) (a w : A) (b : B) → Ok w ≡ checked cs k a → (w ≡ a) × (checked cs k b ≡ Ok b) × (first_failed cs ≡ None)
checked_passes cs k a w b e = go (first_failed cs) e
  where
    go : (o : Option Check) → Ok w ≡ unless o k (Ok a) → (w ≡ a) × (unless o k (Ok b) ≡ Ok b) × (o ≡ None)
    go None q = (cc, refl, refl)
    go (Some c) q = let z : ◌≡◌ {A = ℕ} 0 1 = cc in absurd (omega arith)

-- the first of the checks passes
abbrev FirstPasses : List Check → Type 0
FirstPasses [] = Unit {0}
FirstPasses (c ∷ cs) = c.passes ≡ true

first_passes : (cs : List Check) → first_failed cs ≡ None → FirstPasses cs
first_passes [] e = tt
first_passes (c ∷ cs) e = go c.passes e
  where
    go : (t : Bool) → cond t (first_failed cs) (Some c) ≡ None → t ≡ true
    go true q = refl
    go false q = let z : ◌≡◌ {A = ℕ} 0 1 = cc in absurd (omega arith)

no_items : {X Y : Type 0} (f : X → Y) (xs : List X) → none (map f xs) ≡ true → length xs ≡ 0
no_items f [] e = refl
no_items f (x ∷ xs) e = absurd (false≢true e)

-- one item more, at the end
named_push : {X : Type 0} (f : X → ℕ) (g : ℕ → ℕ) (xs : List X) (x d : X) → ((i : ℕ) → i < length xs → f (get_or xs i d) ≡ g i) → f x ≡ g (length xs) → (i : ℕ) → i < length xs + 1 → f (get_or (xs ++ (x ∷ [])) i d) ≡ g i
named_push f g xs x d all new i h = go (cases_lt i (length xs))
  where
    go : (i < length xs) ⊎ (length xs ≤ i) → f (get_or (xs ++ (x ∷ [])) i d) ≡ g i
    go (inl l) = ap f (get_or_append_left xs (x ∷ []) d i l) ∙ all i l
    go (inr l) = let e : length xs ≡ i = omega arith in ap f (get_or_push xs x d i e) ∙ new ∙ ap g e

-- ---- a place
module _ (bs : List ℕ) (n : NetText) (ps : Vec Place Global) (p : Place) (k s : ℕ) (nm t l : List ℕ)
    (pushed : vec_items ps ≡ vec_items n.places ++ (p ∷ []))
    (read : Ok p ≡ checked (place_checks (net_of bs n) s nm t l) k (record { name = span (s + 6) (length nm); tokens = value t; limit = value l }))
    (stands : take (length nm) (drop (s + 6) bs) ≡ nm) where
  abbrev with_place : NetText
  with_place = record { kind = n.kind; places = ps; moves = n.moves; arcs = n.arcs }

  abbrev new_place : said.Place
  new_place = record { name = nm; tokens = value t; limit = value l }

  place_is : p ≡ record { name = span (s + 6) (length nm); tokens = value t; limit = value l }
  place_is = (checked_passes (place_checks (net_of bs n) s nm t l) k _ p p read).0

  pub place_step : line_read (net_of bs n) k s (a_place nm t l) ≡ Ok (net_of bs with_place)
  place_step =
      (checked_passes (place_checks (net_of bs n) s nm t l) k _ p (add_place (net_of bs n) new_place) read).1
      ∙ ap (λ (qs : List said.Place). Ok (said.net n.kind qs (net_of bs n).moves (net_of bs n).arcs))
      (sym (ap (map (place_of bs)) pushed ∙ map_push (place_of bs) (vec_items n.places) p
      ∙ ap (λ (q : said.Place). map (place_of bs) (vec_items n.places) ++ (q ∷ []))
      (ap (place_of bs) place_is ∙ (λ z. record { name = stands z; tokens = value t; limit = value l }))))

  -- the place's line comes before all moves and arcs
  place_first : (none (net_of bs n).moves && none (net_of bs n).arcs) ≡ true
  place_first = first_passes (place_checks (net_of bs n) s nm t l) (checked_passes (place_checks (net_of bs n) s nm t l) k _ p p read).2

  pub place_located : Locates bs n with_place s
  place_located known start =
      let e = and_parts (none (net_of bs n).moves) (none (net_of bs n).arcs) place_first in
      let ms : length (vec_items n.moves) ≡ 0 = no_items (move_of bs) (vec_items n.moves) e.0 in
      let xs : length (vec_items n.arcs) ≡ 0 = no_items arc_of (vec_items n.arcs) e.1 in
      let count : length (vec_items ps) ≡ length (vec_items n.places) + 1 = ap length pushed ∙ length_push (vec_items n.places) p in
      let here : line_start bs (length (vec_items n.places) + 1) ≡ s = ap (λ (i : ℕ). line_start bs i) (omega arith) ∙ start in (
        record {
          places = λ i h. subst (λ (qs : List Place). (get_or qs i no_place).name.start ≡ line_start bs (i + 1) + 6) (sym pushed)
              (named_push (λ (q : Place). q.name.start) (λ (j : ℕ). line_start bs (j + 1) + 6) (vec_items n.places) p no_place known.places
              (ap (λ (q : Place). q.name.start) place_is ∙ ap (λ (j : ℕ). j + 6) (sym here)) i (omega arith));
          moves = λ i h. absurd (omega arith);
        },
        omega arith,
      )

-- ---- a move
module _ (bs : List ℕ) (n : NetText) (ms : Vec Move Global) (m : Move) (k s : ℕ) (nm c : List ℕ)
    (pushed : vec_items ms ≡ vec_items n.moves ++ (m ∷ []))
    (read : Ok m ≡ checked (move_checks (net_of bs n) s nm c) k (record { name = span (s + 5) (length nm); controllable = bytes_eq c (codes "c") }))
    (stands : take (length nm) (drop (s + 5) bs) ≡ nm) where
  abbrev with_move : NetText
  with_move = record { kind = n.kind; places = n.places; moves = ms; arcs = n.arcs }

  abbrev new_move : said.Move
  new_move = record { name = nm; controllable = bytes_eq c (codes "c") }

  move_is : m ≡ record { name = span (s + 5) (length nm); controllable = bytes_eq c (codes "c") }
  move_is = (checked_passes (move_checks (net_of bs n) s nm c) k _ m m read).0

  pub move_step : line_read (net_of bs n) k s (a_move nm c) ≡ Ok (net_of bs with_move)
  move_step =
      (checked_passes (move_checks (net_of bs n) s nm c) k _ m (add_move (net_of bs n) new_move) read).1
      ∙ ap (λ (qs : List said.Move). Ok (said.net n.kind (net_of bs n).places qs (net_of bs n).arcs))
      (sym (ap (map (move_of bs)) pushed ∙ map_push (move_of bs) (vec_items n.moves) m
      ∙ ap (λ (q : said.Move). map (move_of bs) (vec_items n.moves) ++ (q ∷ []))
      (ap (move_of bs) move_is ∙ (λ z. record { name = stands z; controllable = bytes_eq c (codes "c") }))))

  -- the move's line comes before all arcs
  move_first : none (net_of bs n).arcs ≡ true
  move_first = first_passes (move_checks (net_of bs n) s nm c) (checked_passes (move_checks (net_of bs n) s nm c) k _ m m read).2

  pub move_located : Locates bs n with_move s
  move_located known start =
      let np = length (vec_items n.places) in
      let xs : length (vec_items n.arcs) ≡ 0 = no_items arc_of (vec_items n.arcs) move_first in
      let count : length (vec_items ms) ≡ length (vec_items n.moves) + 1 = ap length pushed ∙ length_push (vec_items n.moves) m in
      let here : line_start bs (np + length (vec_items n.moves) + 1) ≡ s = ap (λ (i : ℕ). line_start bs i) (omega arith) ∙ start in (
        record {
          places = known.places;
          moves = λ i h. subst (λ (qs : List Move). (get_or qs i no_move).name.start ≡ line_start bs (np + i + 1) + 5) (sym pushed)
              (named_push (λ (q : Move). q.name.start) (λ (j : ℕ). line_start bs (np + j + 1) + 5) (vec_items n.moves) m no_move known.moves
              (ap (λ (q : Move). q.name.start) move_is ∙ ap (λ (j : ℕ). j + 5) (sym here)) i (omega arith));
        },
        omega arith,
      )

-- ---- an arc
module _ (bs : List ℕ) (n : NetText) (xs : Vec Arc Global) (a : Arc) (k s : ℕ) (p m t g : List ℕ)
    (pushed : vec_items xs ≡ vec_items n.arcs ++ (a ∷ []))
    (read : Ok a ≡ checked (arc_checks (net_of bs n) s p m t g) k (record { place = index_of (place_names (net_of bs n)) p; transition = index_of (move_names (net_of bs n)) m; take = value t; give = value g })) where
  abbrev with_arc : NetText
  with_arc = record { kind = n.kind; places = n.places; moves = n.moves; arcs = xs }

  abbrev new_arc : said.Arc
  new_arc = record { place = index_of (place_names (net_of bs n)) p; move = index_of (move_names (net_of bs n)) m; take = value t; give = value g }

  pub arc_step : line_read (net_of bs n) k s (an_arc p m t g) ≡ Ok (net_of bs with_arc)
  arc_step =
      let passes = checked_passes (arc_checks (net_of bs n) s p m t g) k _ a (add_arc (net_of bs n) new_arc) read in
      passes.1
      ∙ ap (λ (qs : List said.Arc). Ok (said.net n.kind (net_of bs n).places (net_of bs n).moves qs))
      (sym (ap (map arc_of) pushed ∙ map_push arc_of (vec_items n.arcs) a
      ∙ ap (λ (q : said.Arc). map arc_of (vec_items n.arcs) ++ (q ∷ [])) (ap arc_of passes.0)))

  pub arc_located : Locates bs n with_arc s
  arc_located known start =
      let count : length (vec_items xs) ≡ length (vec_items n.arcs) + 1 = ap length pushed ∙ length_push (vec_items n.arcs) a in
      (record { places = known.places; moves = known.moves }, omega arith)
