-- A line that keeps the clauses: the text with it is right, and has that line as its last row.
use Rattle.std.proofs.Common.{◌≡◌, ℕ, ◌<◌, Bool, true, false, cond, ◌⊎◌, List, [], ◌∷◌, ◌++◌, length, get_or, Some, None, codes, decimal, Option, sym, refl, ap, ◌∙◌, subst, ap₂, subst₂, inl, inr, arith}
use lib.ListN.{length-map}
use Rattle.std.specs.Str.{bytes_eq}
use Rattle.std.proofs.lemmas.Slice.Eq.{bytes_eq-Decides}
use Rattle.formats.specs.declared.kind.Kind.{Kind}
use Rattle.formats.specs.declared.kind.Kind.TheVariants.{Net, Bank, Line}
use Rattle.formats.specs.Words.{value, index_of}
use Rattle.formats.specs.NetText.{Place, Move, Arc, NetText, net, place_names, move_names, kind_word, letter_of, place_row, move_row, arc_row, rows, Filled, Right}
use Rattle.formats.specs.Texts.{Keeps, RightSoFar}
use Rattle.formats.specs.NetClauses.{Shape, shape, place_clauses, move_clauses, arc_clauses, clauses, net_meaning}
use Rattle.formats.specs.NetClauses.Shape.{a_plant, a_place, a_move, an_arc, no_record}
use Rattle.formats.specs.ReadNet.{kind_of, begun, add_place, add_move, add_arc, after}
use Rattle.formats.proofs.Whole.{rows_so_far}
use Rattle.formats.proofs.Tests.{numeral_is, known_index}
use Rattle.formats.proofs.NetAdding.{one_more, FitsPlace, FitsMove, FitsArc, place_in, place_rows, move_in, move_rows, arc_in, arc_rows}

-- ---- the fields that a shape stands for
abbrev pub fields_of : Shape → List (List ℕ)
fields_of (a_plant k) = codes "plant" ∷ k ∷ []
fields_of (a_place n t l) = codes "place" ∷ n ∷ t ∷ l ∷ []
fields_of (a_move n k) = codes "move" ∷ n ∷ k ∷ []
fields_of (an_arc p m t g) = codes "arc" ∷ p ∷ m ∷ t ∷ g ∷ []
fields_of no_record = []

shape_go : (w : List ℕ) (word : List ℕ) (fs : List (List ℕ)) (l : Shape) → fields_of l ≡ word ∷ fs → (b : Bool) → bytes_eq w word ≡ b → (cond b l no_record ≡ no_record) ⊎ (w ∷ fs ≡ fields_of (cond b l no_record))
shape_go w word fs l q true e = inr (ap (λ (v : List ℕ). v ∷ fs) ((bytes_eq-Decides w word).0 e) ∙ sym q)
shape_go w word fs l q false e = inl refl

pub shape_fields : (fs : List (List ℕ)) → (shape fs ≡ no_record) ⊎ (fs ≡ fields_of (shape fs))
shape_fields [] = inl refl
shape_fields (w ∷ []) = inl refl
shape_fields (w ∷ a ∷ []) = shape_go w (codes "plant") (a ∷ []) (a_plant a) refl (bytes_eq w (codes "plant")) refl
shape_fields (w ∷ a ∷ b ∷ []) = shape_go w (codes "move") (a ∷ b ∷ []) (a_move a b) refl (bytes_eq w (codes "move")) refl
shape_fields (w ∷ a ∷ b ∷ c ∷ []) = shape_go w (codes "place") (a ∷ b ∷ c ∷ []) (a_place a b c) refl (bytes_eq w (codes "place")) refl
shape_fields (w ∷ a ∷ b ∷ c ∷ d ∷ []) = shape_go w (codes "arc") (a ∷ b ∷ c ∷ d ∷ []) (an_arc a b c d) refl (bytes_eq w (codes "arc")) refl
shape_fields (w ∷ a ∷ b ∷ c ∷ d ∷ e ∷ fs) = inl refl

-- ---- the first line
pub begun_right : (k : Kind) → Right (begun k)
begun_right k = record { few_places = omega arith; few_moves = omega arith; named = tt; different = tt; filled = tt; joining = tt; once = tt; plain = inr refl }

word_kind : (k : Kind) → kind_word (kind_of (kind_word k)) ≡ kind_word k
word_kind Net = refl
word_kind Bank = refl
word_kind Line = refl

-- ---- a place, a move, an arc, with the lists in the variables
place_step : (x : NetText) (p : Place) → x.moves ≡ [] → x.arcs ≡ [] → Right x → FitsPlace x p → Right (add_place x p) × (rows (add_place x p) ≡ rows x ++ (place_row p ∷ []))
place_step x p no_moves no_arcs =
    let P : List Move → List Arc → Type 0 = λ ms xs. Right (net x.kind x.places ms xs) → FitsPlace (net x.kind x.places ms xs) p
    → Right (net x.kind (x.places ++ (p ∷ [])) ms xs) × (rows (net x.kind (x.places ++ (p ∷ [])) ms xs) ≡ rows (net x.kind x.places ms xs) ++ (place_row p ∷ [])) in
    subst₂ P (sym no_moves) (sym no_arcs) (λ r f. (place_in x.kind x.places p r f, place_rows x.kind x.places p))

move_step : (x : NetText) (m : Move) → x.arcs ≡ [] → Right x → FitsMove x m → Right (add_move x m) × (rows (add_move x m) ≡ rows x ++ (move_row m ∷ []))
move_step x m no_arcs =
    let P : List Arc → Type 0 = λ xs. Right (net x.kind x.places x.moves xs) → FitsMove (net x.kind x.places x.moves xs) m
    → Right (net x.kind x.places (x.moves ++ (m ∷ [])) xs) × (rows (net x.kind x.places (x.moves ++ (m ∷ [])) xs) ≡ rows (net x.kind x.places x.moves xs) ++ (move_row m ∷ [])) in
    subst P (sym no_arcs) (λ r f. (move_in x.kind x.places x.moves m r f, move_rows x.kind x.places x.moves m))

-- ---- each line
plant_done : (f : List ℕ) (k : Kind) → f ≡ kind_word k → rows (begun (kind_of f)) ≡ (codes "plant" ∷ f ∷ []) ∷ []
plant_done f k e =
    ap (λ (z : List ℕ). (codes "plant" ∷ z ∷ []) ∷ []) (ap (λ (z : List ℕ). kind_word (kind_of z)) e ∙ word_kind k ∙ sym e)

place_done : (x : NetText) (at : ℕ) (n t l : List ℕ) → Right x → Keeps (place_clauses x at n t l)
    → Right (after (Some x) (a_place n t l)) × (rows (after (Some x) (a_place n t l)) ≡ rows x ++ (fields_of (a_place n t l) ∷ []))
place_done x at n t l r h =
    let p : Place = record { name = n; tokens = value t; limit = value l } in
    let nt = numeral_is 3 t (omega arith) h.1.1.1.1.0 in
    let nl = numeral_is 3 l (omega arith) h.1.1.1.1.1.0 in
    let fill : Filled p = (h.1.1.1.1.1.1.1.0, h.1.1.1.1.1.1.0, omega (arith, nl.0)) in
    let s = place_step x p h.0.0 h.0.1 r (record { room = h.1.0; name_ok = h.1.1.0; name_new = h.1.1.1.0; fill = fill }) in
    (s.0, one_more (rows x) (rows (add_place x p)) (place_row p) (fields_of (a_place n t l)) s.1 (ap₂ (λ (u v : List ℕ). codes "place" ∷ n ∷ u ∷ v ∷ []) (sym nt.1) (sym nl.1)))

letter_is : (k : List ℕ) → (k ≡ codes "c") ⊎ (k ≡ codes "u") → letter_of (bytes_eq k (codes "c")) ≡ k
letter_is k (inl e) = subst (λ (z : List ℕ). letter_of (bytes_eq z (codes "c")) ≡ z) (sym e) refl
letter_is k (inr e) = subst (λ (z : List ℕ). letter_of (bytes_eq z (codes "c")) ≡ z) (sym e) refl

move_done : (x : NetText) (at : ℕ) (n k : List ℕ) → Right x → Keeps (move_clauses x at n k)
    → Right (after (Some x) (a_move n k)) × (rows (after (Some x) (a_move n k)) ≡ rows x ++ (fields_of (a_move n k) ∷ []))
move_done x at n k r h =
    let m : Move = record { name = n; controllable = bytes_eq k (codes "c") } in
    let s = move_step x m h.0 r (record { room = h.1.0; name_ok = h.1.1.0; name_new = h.1.1.1.0 }) in
    (s.0, one_more (rows x) (rows (add_move x m)) (move_row m) (fields_of (a_move n k)) s.1 (ap (λ (u : List ℕ). codes "move" ∷ n ∷ u ∷ []) (letter_is k h.1.1.1.1.0)))

arc_same : (a b c d p m t g : List ℕ) → a ≡ p → b ≡ m → c ≡ t → d ≡ g → ◌≡◌ {A = List (List ℕ)} (codes "arc" ∷ a ∷ b ∷ c ∷ d ∷ []) (codes "arc" ∷ p ∷ m ∷ t ∷ g ∷ [])
arc_same a b c d p m t g e1 e2 e3 e4 = cc

arc_done : (x : NetText) (at : ℕ) (p m t g : List ℕ) → Right x → Keeps (arc_clauses x at p m t g)
    → Right (after (Some x) (an_arc p m t g)) × (rows (after (Some x) (an_arc p m t g)) ≡ rows x ++ (fields_of (an_arc p m t g) ∷ []))
arc_done x at p m t g r h =
    let i = known_index (place_names x) p h.1.0 in
    let j = known_index (move_names x) m h.1.1.1.0 in
    let nt = numeral_is 1 t (omega arith) h.1.1.1.1.0 in
    let ng = numeral_is 1 g (omega arith) h.1.1.1.1.1.0 in
    let a : Arc = record { place = index_of (place_names x) p; move = index_of (move_names x) m; take = value t; give = value g } in
    let li : a.place < length x.places = subst (λ (z : ℕ). a.place < z) (length-map x.places (λ (q : Place). q.name)) i.0 in
    let lj : a.move < length x.moves = subst (λ (z : ℕ). a.move < z) (length-map x.moves (λ (q : Move). q.name)) j.0 in
    let f : FitsArc x a = record {
      ends = (li, lj, omega (arith, nt.0), omega (arith, ng.0), h.1.1.1.1.1.1.0);
      pair_new = h.1.1.1.1.1.1.1.0;
      in_net = h.1.1.1.1.1.1.1.1.0;
    } in (
      arc_in x.kind x.places x.moves x.arcs a r f,
      one_more (rows x) (rows (add_arc x a)) (arc_row (place_names x) (move_names x) a) (fields_of (an_arc p m t g)) (arc_rows x.kind x.places x.moves x.arcs a)
          (arc_same (get_or (place_names x) a.place []) (get_or (move_names x) a.move []) (decimal (value t)) (decimal (value g)) p m t g i.1 j.1 (sym nt.1) (sym ng.1)),
    )

pub advance : (s : Option NetText) (at : ℕ) (l : Shape) → RightSoFar net_meaning s → Keeps (clauses s at l) → Right (after s l) × (rows (after s l) ≡ rows_so_far net_meaning s ++ (fields_of l ∷ []))
advance None at (a_plant f) r h = (begun_right (kind_of f), plant_done f h.0.0 h.0.1)
advance None at (a_place n t l) r h = absurd h.0
advance None at (a_move n k) r h = absurd h.0
advance None at (an_arc p m t g) r h = absurd h.0
advance None at no_record r h = absurd h.0
advance (Some x) at (a_plant k) r h = absurd h.0
advance (Some x) at (a_place n t l) r h = place_done x at n t l r h
advance (Some x) at (a_move n k) r h = move_done x at n k r h
advance (Some x) at (an_arc p m t g) r h = arc_done x at p m t g r h
advance (Some x) at no_record r h = absurd h.0

no_keeps : (s : Option NetText) (at : ℕ) → Keeps (clauses s at no_record) → ⊥
no_keeps None at h = h.0
no_keeps (Some x) at h = h.0

-- the same of a line's fields
pub advance_line : (s : Option NetText) (at : ℕ) (fs : List (List ℕ)) → RightSoFar net_meaning s → Keeps (clauses s at (shape fs)) → Right (after s (shape fs)) × (rows (after s (shape fs)) ≡ rows_so_far net_meaning s ++ (fs ∷ []))
advance_line s at fs r h =
    elim (shape_fields fs) [
      | inl e ↦ absurd (no_keeps s at (subst (λ (l : Shape). Keeps (clauses s at l)) e h))
      | inr e ↦ ((advance s at (shape fs) r h).0, one_more (rows_so_far net_meaning s) (rows (after s (shape fs))) (fields_of (shape fs)) fs (advance s at (shape fs) r h).1 (sym e))
    ]
