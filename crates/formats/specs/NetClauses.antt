-- What is asked of each line of a net text, in order, with the refusal and the byte if it is not so.
--   Shape            a line by its word and its count of fields, with its other fields as they stand
--   clauses s at l   what is asked of the line l that starts at byte `at` after the text s (None before the first line), in order
use Rattle.std.specs.Prelude.{◌≡◌, ℕ, ◌+◌, ◌<◌, ◌≤◌, cond, ◌⊎◌, List, [], ◌∷◌, length, Some, None, codes, Option}
use Rattle.std.specs.List.{AllByRecursion}
use Rattle.std.specs.Str.{bytes_eq}
use Rattle.model.specs.Sizes.{most_places, most_moves, count_digits, arc_digits}
use Rattle.formats.specs.declared.kind.Kind.{Kind}
use Rattle.formats.specs.declared.kind.Kind.TheVariants.{Net}
use Rattle.model.specs.declared.refusal.Refusal.TheVariants.{NoRecord, Field, NameTaken, NameUnknown, TooMany, ArcNotAllowed}
use Rattle.formats.specs.Words.{IsName, Numeral, Known, value, index_of, NewName}
use Rattle.formats.specs.Texts.{Clause, clause, Meaning}
use Rattle.formats.specs.NetText.{Arc, NetText, place_names, move_names, names, kind_word, rows, Right, Complete}

pub data Shape : Type 0 where
  a_plant : List ℕ → Shape
  a_place : List ℕ → List ℕ → List ℕ → Shape
  a_move : List ℕ → List ℕ → Shape
  an_arc : List ℕ → List ℕ → List ℕ → List ℕ → Shape
  no_record : Shape

abbrev pub shape : List (List ℕ) → Shape
shape [] = no_record
shape (w ∷ []) = no_record
shape (w ∷ a ∷ []) = cond (bytes_eq w (codes "plant")) (a_plant a) no_record
shape (w ∷ a ∷ b ∷ []) = cond (bytes_eq w (codes "move")) (a_move a b) no_record
shape (w ∷ a ∷ b ∷ c ∷ []) = cond (bytes_eq w (codes "place")) (a_place a b c) no_record
shape (w ∷ a ∷ b ∷ c ∷ d ∷ []) = cond (bytes_eq w (codes "arc")) (an_arc a b c d) no_record
shape (w ∷ a ∷ b ∷ c ∷ d ∷ e ∷ fs) = no_record

abbrev pub place_clauses : NetText → ℕ → List ℕ → List ℕ → List ℕ → List Clause
place_clauses x at n t l =
    clause ((x.moves ≡ []) × (x.arcs ≡ [])) NoRecord at
    ∷ clause (length x.places < most_places) TooMany at
    ∷ clause (IsName n) Field (at + 6)
    ∷ clause (NewName (names x) n) NameTaken (at + 6)
    ∷ clause (Numeral count_digits t) Field (at + 6 + length n + 1)
    ∷ clause (Numeral count_digits l) Field (at + 6 + length n + 1 + length t + 1)
    ∷ clause (1 ≤ value l) Field (at + 6 + length n + 1 + length t + 1)
    ∷ clause (value t ≤ value l) Field (at + 6 + length n + 1)
    ∷ []

abbrev pub move_clauses : NetText → ℕ → List ℕ → List ℕ → List Clause
move_clauses x at n k =
    clause (x.arcs ≡ []) NoRecord at
    ∷ clause (length x.moves < most_moves) TooMany at
    ∷ clause (IsName n) Field (at + 5)
    ∷ clause (NewName (names x) n) NameTaken (at + 5)
    ∷ clause ((k ≡ codes "c") ⊎ (k ≡ codes "u")) Field (at + 5 + length n + 1)
    ∷ []

-- no arc yet between that place and that move
abbrev pub NewPair : List Arc → ℕ → ℕ → Type 0
NewPair xs p m = AllByRecursion (λ (a : Arc). (a.place ≡ p) × (a.move ≡ m) → ⊥) xs

abbrev pub arc_clauses : NetText → ℕ → List ℕ → List ℕ → List ℕ → List ℕ → List Clause
arc_clauses x at p m t g =
    clause (IsName p) Field (at + 4)
    ∷ clause (Known (place_names x) p) NameUnknown (at + 4)
    ∷ clause (IsName m) Field (at + 4 + length p + 1)
    ∷ clause (Known (move_names x) m) NameUnknown (at + 4 + length p + 1)
    ∷ clause (Numeral arc_digits t) Field (at + 4 + length p + 1 + length m + 1)
    ∷ clause (Numeral arc_digits g) Field (at + 4 + length p + 1 + length m + 1 + length t + 1)
    ∷ clause (1 ≤ value t + value g) Field (at + 4 + length p + 1 + length m + 1)
    ∷ clause (NewPair x.arcs (index_of (place_names x) p) (index_of (move_names x) m)) ArcNotAllowed at
    ∷ clause (x.kind ≡ Net) ArcNotAllowed at
    ∷ []

abbrev pub clauses : Option NetText → ℕ → Shape → List Clause
clauses None at (a_plant f) = clause ((k : Kind) × (f ≡ kind_word k)) Field (at + 6) ∷ []
clauses None at (a_place n t l) = clause ⊥ NoRecord at ∷ []
clauses None at (a_move n k) = clause ⊥ NoRecord at ∷ []
clauses None at (an_arc p m t g) = clause ⊥ NoRecord at ∷ []
clauses None at no_record = clause ⊥ NoRecord at ∷ []
clauses (Some x) at (a_plant k) = clause ⊥ NoRecord at ∷ []
clauses (Some x) at (a_place n t l) = place_clauses x at n t l
clauses (Some x) at (a_move n k) = move_clauses x at n k
clauses (Some x) at (an_arc p m t g) = arc_clauses x at p m t g
clauses (Some x) at no_record = clause ⊥ NoRecord at ∷ []

-- what a net text means
abbrev pub net_meaning : Meaning NetText
net_meaning = record { clauses = λ s at fs. clauses s at (shape fs); rows = rows; Right = Right; Complete = Complete }
