-- The value of a net text, the lines that are written for it, and which values are right.
--   Place            a place line: its name, the tokens at the start, the limit
--   Move             a move line: its name, and whether it is controllable
--   Arc              an arc line: place and move by index (from 0, in the order of their lines), what the move takes and gives there
--   NetText          the kind, the places, the moves, the arcs, each in the order of their lines
--   rows x           the lines of the text, each as its fields: `plant KIND`, the places, the moves, the arcs
--   Right x          x is right as far as it goes: every line fits those before it
--   Complete x       x has what the end of a net text asks for
use Rattle.std.specs.Prelude.{◌≡◌, ℕ, ◌+◌, ◌%◌, ◌^◌, ◌<◌, ◌≤◌, Bool, true, false, ◌⊎◌, List, [], ◌∷◌, ◌++◌, map, length, codes, decimal, slice_index_or}
use Rattle.std.specs.List.{AllByRecursion}
use Rattle.model.specs.Sizes.{most_places, most_moves, count_digits, arc_digits}
use Rattle.formats.specs.declared.kind.Kind.{Kind}
use Rattle.formats.specs.declared.kind.Kind.TheVariants.{Net, Bank, Line}
use Rattle.formats.specs.Words.{IsName, Apart, AllDifferent}

pub record Place : Type 0 where
  pub name : List ℕ
  pub tokens : ℕ
  pub limit : ℕ

pub record Move : Type 0 where
  pub name : List ℕ
  pub controllable : Bool

pub record Arc : Type 0 where
  pub place : ℕ
  pub move : ℕ
  pub take : ℕ
  pub give : ℕ

pub record NetText : Type 0 where
  pub kind : Kind
  pub places : List Place
  pub moves : List Move
  pub arcs : List Arc

abbrev pub net : Kind → List Place → List Move → List Arc → NetText
net k ps ms xs = record { kind = k; places = ps; moves = ms; arcs = xs }

abbrev pub place_names : NetText → List (List ℕ)
place_names x = map (λ (p : Place). p.name) x.places

abbrev pub move_names : NetText → List (List ℕ)
move_names x = map (λ (m : Move). m.name) x.moves

abbrev pub names : NetText → List (List ℕ)
names x = place_names x ++ move_names x

-- ---- how it is written: the fields of each line
abbrev pub kind_word : Kind → List ℕ
kind_word Net = codes "net"
kind_word Bank = codes "bank"
kind_word Line = codes "line"

abbrev pub letter_of : Bool → List ℕ
letter_of true = codes "c"
letter_of false = codes "u"

abbrev pub plant_row : Kind → List (List ℕ)
plant_row k = codes "plant" ∷ kind_word k ∷ []

abbrev pub place_row : Place → List (List ℕ)
place_row p = codes "place" ∷ p.name ∷ decimal p.tokens ∷ decimal p.limit ∷ []

abbrev pub move_row : Move → List (List ℕ)
move_row m = codes "move" ∷ m.name ∷ letter_of m.controllable ∷ []

-- with the names of all places and moves
abbrev pub arc_row : List (List ℕ) → List (List ℕ) → Arc → List (List ℕ)
arc_row ps ms a = codes "arc" ∷ slice_index_or ps a.place [] ∷ slice_index_or ms a.move [] ∷ decimal a.take ∷ decimal a.give ∷ []

abbrev pub rows : NetText → List (List (List ℕ))
rows x = plant_row x.kind ∷ (map place_row x.places ++ (map move_row x.moves ++ map (arc_row (place_names x) (move_names x)) x.arcs))

-- ---- which values are right
-- the tokens are at most the limit, which is 1 to 999
abbrev pub Filled : Place → Type 0
Filled p = (p.tokens ≤ p.limit) × (1 ≤ p.limit) × (p.limit < 10 ^ count_digits)

-- an arc between a place and a move that there are, of 0 to 9, not both 0
abbrev pub Joins : ℕ → ℕ → Arc → Type 0
Joins places moves a = (a.place < places) × (a.move < moves) × (a.take < 10 ^ arc_digits) × (a.give < 10 ^ arc_digits) × (1 ≤ a.take + a.give)

abbrev pub SamePair : Arc → Arc → Type 0
SamePair a b = (a.place ≡ b.place) × (a.move ≡ b.move)

pub record Right (x : NetText) : Type 0 where
  pub few_places : length x.places ≤ most_places
  pub few_moves : length x.moves ≤ most_moves
  pub named : AllByRecursion IsName (names x)
  pub different : AllDifferent (names x)
  pub filled : AllByRecursion Filled x.places
  pub joining : AllByRecursion (Joins (length x.places) (length x.moves)) x.arcs
  pub once : Apart SamePair x.arcs
  pub plain : (x.kind ≡ Net) ⊎ (x.arcs ≡ [])

-- the counts and limits that a kind asks for
abbrev pub Shaped : Kind → List Place → List Move → Type 0
Shaped Net ps ms = Unit {0}
Shaped Bank ps ms = (length ps % 4 ≡ 0) × (length ms ≡ length ps) × AllByRecursion (λ (p : Place). p.limit ≡ 1) ps
Shaped Line ps ms = length ms ≡ length ps + 1

-- what the end of the text asks for
abbrev pub Complete : NetText → Type 0
Complete x = (1 ≤ length x.places) × (1 ≤ length x.moves) × Shaped x.kind x.places x.moves
