-- One more place, move or arc: the text stays right just where the line fits, and has one more row.
use Rattle.std.proofs.Common.{◌≡◌, ℕ, ◌<◌, List, [], ◌∷◌, ◌++◌, map, length, sym, refl, ap, ◌∙◌, subst, inl, inr, append_assoc, append-nil, arith}
use Rattle.std.specs.List.{AllByRecursion}
use Rattle.std.proofs.lemmas.List.{map_push, length_push}
use Rattle.std.proofs.ByRecursion.{All-push}
use Rattle.formats.specs.declared.kind.Kind.{Kind}
use Rattle.formats.specs.declared.kind.Kind.TheVariants.{Net}
use Rattle.formats.specs.Words.{IsName, Apart, New}
use Rattle.formats.specs.NetText.{Place, Move, Arc, NetText, net, names, place_names, move_names, plant_row, place_row, move_row, arc_row, rows, Filled, Joins, SamePair, Right}

-- ---- one more element
pub all_split : {A : Type 0} (P : A → Type 0) (xs ys : List A) → AllByRecursion P (xs ++ ys) → AllByRecursion P xs × AllByRecursion P ys
all_split P [] ys h = (tt, h)
all_split P (x ∷ xs) ys h = let r = all_split P xs ys h.1 in ((h.0, r.0), r.1)

pub all_pop : {A : Type 0} (P : A → Type 0) (xs : List A) (y : A) → AllByRecursion P (xs ++ (y ∷ [])) → AllByRecursion P xs × P y
all_pop P xs y h = let s = all_split P xs (y ∷ []) h in (s.0, s.1.0)

pub apart_push : {A : Type 0} (R : A → A → Type 0) (xs : List A) (y : A) → Apart R xs → New R xs y → Apart R (xs ++ (y ∷ []))
apart_push R [] y h n = (tt, tt)
apart_push R (x ∷ xs) y h n = (All-push (λ z. R x z → ⊥) xs y h.0 n.0, apart_push R xs y h.1 n.1)

pub apart_pop : {A : Type 0} (R : A → A → Type 0) (xs : List A) (y : A) → Apart R (xs ++ (y ∷ [])) → Apart R xs × New R xs y
apart_pop R [] y h = (tt, tt)
apart_pop R (x ∷ xs) y h =
    let a = all_pop (λ z. R x z → ⊥) xs y h.0 in
    let r = apart_pop R xs y h.1 in
    ((a.0, r.0), (a.1, r.1))

pub apart_split : {A : Type 0} (R : A → A → Type 0) (xs ys : List A) → Apart R (xs ++ ys) → Apart R xs × Apart R ys
apart_split R [] ys h = (tt, h)
apart_split R (x ∷ xs) ys h = let r = apart_split R xs ys h.1 in (((all_split (λ y. R x y → ⊥) xs ys h.0).0, r.0), r.1)

pub one_more : (rs qs : List (List (List ℕ))) (a b : List (List ℕ)) → qs ≡ rs ++ (a ∷ []) → a ≡ b → qs ≡ rs ++ (b ∷ [])
one_more rs qs a b e q = e ∙ ap (λ (z : List (List ℕ)). rs ++ (z ∷ [])) q

-- ---- names
place_names_push : (ps : List Place) (p : Place) → map (λ (q : Place). q.name) (ps ++ (p ∷ [])) ++ [] ≡ (map (λ (q : Place). q.name) ps ++ []) ++ (p.name ∷ [])
place_names_push ps p =
    append-nil (map (λ (q : Place). q.name) (ps ++ (p ∷ []))) ∙ map_push (λ (q : Place). q.name) ps p
    ∙ ap (λ (z : List (List ℕ)). z ++ (p.name ∷ [])) (sym (append-nil (map (λ (q : Place). q.name) ps)))

move_names_push : (ns : List (List ℕ)) (ms : List Move) (m : Move) → ns ++ map (λ (q : Move). q.name) (ms ++ (m ∷ [])) ≡ (ns ++ map (λ (q : Move). q.name) ms) ++ (m.name ∷ [])
move_names_push ns ms m =
    ap (λ (z : List (List ℕ)). ns ++ z) (map_push (λ (q : Move). q.name) ms m) ∙ sym (append_assoc ns (map (λ (q : Move). q.name) ms) (m.name ∷ []))

-- ---- what a line must be to be added
pub record FitsPlace (x : NetText) (p : Place) : Type 0 where
  pub room : length x.places < 32
  pub name_ok : IsName p.name
  pub name_new : New (λ m n. m ≡ n) (names x) p.name
  pub fill : Filled p

pub record FitsMove (x : NetText) (m : Move) : Type 0 where
  pub room : length x.moves < 32
  pub name_ok : IsName m.name
  pub name_new : New (λ k n. k ≡ n) (names x) m.name

pub record FitsArc (x : NetText) (a : Arc) : Type 0 where
  pub ends : Joins (length x.places) (length x.moves) a
  pub pair_new : New SamePair x.arcs a
  pub in_net : x.kind ≡ Net

-- ---- places
pub place_in : (k : Kind) (ps : List Place) (p : Place) → Right (net k ps [] []) → FitsPlace (net k ps [] []) p → Right (net k (ps ++ (p ∷ [])) [] [])
place_in k ps p r f = record {
  few_places = omega (arith, length_push ps p, f.room);
  few_moves = r.few_moves;
  named = subst (AllByRecursion IsName) (sym (place_names_push ps p)) (All-push IsName (names (net k ps [] [])) p.name r.named f.name_ok);
  different = subst (Apart (λ m n. m ≡ n)) (sym (place_names_push ps p)) (apart_push (λ m n. m ≡ n) (names (net k ps [] [])) p.name r.different f.name_new);
  filled = All-push Filled ps p r.filled f.fill;
  joining = tt;
  once = tt;
  plain = inr refl;
}

pub place_out : (k : Kind) (ps : List Place) (p : Place) → Right (net k (ps ++ (p ∷ [])) [] []) → Right (net k ps [] []) × FitsPlace (net k ps [] []) p
place_out k ps p r =
    let a = all_pop IsName (names (net k ps [] [])) p.name (subst (AllByRecursion IsName) (place_names_push ps p) r.named) in
    let d = apart_pop (λ m n. m ≡ n) (names (net k ps [] [])) p.name (subst (Apart (λ m n. m ≡ n)) (place_names_push ps p) r.different) in
    let f = all_pop Filled ps p r.filled in
    let l : length ps < 32 = omega (arith, length_push ps p, r.few_places) in (
      record { few_places = omega arith; few_moves = r.few_moves; named = a.0; different = d.0; filled = f.0; joining = tt; once = tt; plain = inr refl },
      record { room = l; name_ok = a.1; name_new = d.1; fill = f.1 },
    )

pub place_rows : (k : Kind) (ps : List Place) (p : Place) → rows (net k (ps ++ (p ∷ [])) [] []) ≡ rows (net k ps [] []) ++ (place_row p ∷ [])
place_rows k ps p =
    ap (λ (z : List (List (List ℕ))). plant_row k ∷ z)
    (append-nil (map place_row (ps ++ (p ∷ []))) ∙ map_push place_row ps p ∙ ap (λ (z : List (List (List ℕ))). z ++ (place_row p ∷ [])) (sym (append-nil (map place_row ps))))

-- ---- moves
pub move_in : (k : Kind) (ps : List Place) (ms : List Move) (m : Move) → Right (net k ps ms []) → FitsMove (net k ps ms []) m → Right (net k ps (ms ++ (m ∷ [])) [])
move_in k ps ms m r f =
    let ns = map (λ (q : Place). q.name) ps in
    record {
      few_places = r.few_places;
      few_moves = omega (arith, length_push ms m, f.room);
      named = subst (AllByRecursion IsName) (sym (move_names_push ns ms m)) (All-push IsName (names (net k ps ms [])) m.name r.named f.name_ok);
      different = subst (Apart (λ i j. i ≡ j)) (sym (move_names_push ns ms m)) (apart_push (λ i j. i ≡ j) (names (net k ps ms [])) m.name r.different f.name_new);
      filled = r.filled;
      joining = tt;
      once = tt;
      plain = inr refl;
    }

pub move_out : (k : Kind) (ps : List Place) (ms : List Move) (m : Move) → Right (net k ps (ms ++ (m ∷ [])) []) → Right (net k ps ms []) × FitsMove (net k ps ms []) m
move_out k ps ms m r =
    let ns = map (λ (q : Place). q.name) ps in
    let a = all_pop IsName (names (net k ps ms [])) m.name (subst (AllByRecursion IsName) (move_names_push ns ms m) r.named) in
    let d = apart_pop (λ i j. i ≡ j) (names (net k ps ms [])) m.name (subst (Apart (λ i j. i ≡ j)) (move_names_push ns ms m) r.different) in
    let l : length ms < 32 = omega (arith, length_push ms m, r.few_moves) in (
      record { few_places = r.few_places; few_moves = omega arith; named = a.0; different = d.0; filled = r.filled; joining = tt; once = tt; plain = inr refl },
      record { room = l; name_ok = a.1; name_new = d.1 },
    )

pub move_rows : (k : Kind) (ps : List Place) (ms : List Move) (m : Move) → rows (net k ps (ms ++ (m ∷ [])) []) ≡ rows (net k ps ms []) ++ (move_row m ∷ [])
move_rows k ps ms m =
    ap (λ (z : List (List (List ℕ))). plant_row k ∷ z)
    (ap (λ (z : List (List (List ℕ))). map place_row ps ++ z)
    (append-nil (map move_row (ms ++ (m ∷ []))) ∙ map_push move_row ms m ∙ ap (λ (z : List (List (List ℕ))). z ++ (move_row m ∷ [])) (sym (append-nil (map move_row ms))))
    ∙ sym (append_assoc (map place_row ps) (map move_row ms ++ []) (move_row m ∷ [])))

-- ---- arcs
pub arc_in : (k : Kind) (ps : List Place) (ms : List Move) (xs : List Arc) (a : Arc) → Right (net k ps ms xs) → FitsArc (net k ps ms xs) a → Right (net k ps ms (xs ++ (a ∷ [])))
arc_in k ps ms xs a r f = record {
  few_places = r.few_places;
  few_moves = r.few_moves;
  named = r.named;
  different = r.different;
  filled = r.filled;
  joining = All-push (Joins (length ps) (length ms)) xs a r.joining f.ends;
  once = apart_push SamePair xs a r.once f.pair_new;
  plain = inl f.in_net;
}

cons_nil : {A : Type 0} (xs : List A) (y : A) → xs ++ (y ∷ []) ≡ [] → ⊥
cons_nil xs y e = omega (arith, length_push xs y, ap length e)

pub arc_out : (k : Kind) (ps : List Place) (ms : List Move) (xs : List Arc) (a : Arc) → Right (net k ps ms (xs ++ (a ∷ []))) → Right (net k ps ms xs) × FitsArc (net k ps ms xs) a
arc_out k ps ms xs a r =
    let j = all_pop (Joins (length ps) (length ms)) xs a r.joining in
    let o = apart_pop SamePair xs a r.once in
    let n : k ≡ Net = elim r.plain [ inl e ↦ e | inr e ↦ absurd (cons_nil xs a e) ] in (
      record { few_places = r.few_places; few_moves = r.few_moves; named = r.named; different = r.different; filled = r.filled; joining = j.0; once = o.0; plain = inl n },
      record { ends = j.1; pair_new = o.1; in_net = n },
    )

pub arc_rows : (k : Kind) (ps : List Place) (ms : List Move) (xs : List Arc) (a : Arc) → rows (net k ps ms (xs ++ (a ∷ []))) ≡ rows (net k ps ms xs) ++ (arc_row (place_names (net k ps ms xs)) (move_names (net k ps ms xs)) a ∷ [])
arc_rows k ps ms xs a =
    let f = arc_row (place_names (net k ps ms xs)) (move_names (net k ps ms xs)) in
    ap (λ (z : List (List (List ℕ))). plant_row k ∷ z)
    (ap (λ (z : List (List (List ℕ))). map place_row ps ++ (map move_row ms ++ z)) (map_push f xs a)
    ∙ ap (λ (z : List (List (List ℕ))). map place_row ps ++ z) (sym (append_assoc (map move_row ms) (map f xs) (f a ∷ [])))
    ∙ sym (append_assoc (map place_row ps) (map move_row ms ++ map f xs) (f a ∷ [])))
