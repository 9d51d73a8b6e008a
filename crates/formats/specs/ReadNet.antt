-- How a net text is read: the checks of each line in their order, and what the line adds.
--   checks s at l    the checks of the line l that starts at byte `at` after the text s (None before the first line), in order
--   after s l        the text with that line, if it passes
--   read_net         reads a net text
use Rattle.std.specs.Prelude.{ℕ, ◌+◌, ◌%◌, Bool, true, false, cond, not, ◌&&◌, ◌||◌, List, [], ◌∷◌, ◌++◌, length, Some, None, codes, Option, Result, ◌==◌, nat_eq, nat_le, nat_lt}
use Rattle.std.specs.Str.{bytes_eq}
use Rattle.model.specs.Sizes.{most_places, most_moves, count_digits, arc_digits}
use Rattle.formats.specs.declared.kind.Kind.{Kind}
use Rattle.formats.specs.declared.kind.Kind.TheVariants.{Net, Bank, Line}
use Rattle.model.specs.declared.refusal.Refusal.TheVariants.{NoRecord, Field, NameTaken, NameUnknown, TooMany, ArcNotAllowed}
use Rattle.formats.specs.declared.fault.TextFault.{TextFault}
use Rattle.formats.specs.Words.{none, is_name, is_numeral, value, all, is_new, is_known, index_of}
use Rattle.formats.specs.NetText.{Place, Move, Arc, NetText, net, place_names, move_names, names}
use Rattle.formats.specs.NetClauses.{Shape, shape}
use Rattle.formats.specs.NetClauses.Shape.{a_plant, a_place, a_move, an_arc, no_record}
use Rattle.formats.specs.Texts.{Check, check, Reader, read_text}

abbrev pub is_kind : List ℕ → Bool
is_kind f = bytes_eq f (codes "net") || (bytes_eq f (codes "bank") || bytes_eq f (codes "line"))

abbrev pub kind_of : List ℕ → Kind
kind_of f = cond (bytes_eq f (codes "net")) Net (cond (bytes_eq f (codes "bank")) Bank Line)

abbrev pub is_net : Kind → Bool
is_net Net = true
is_net Bank = false
is_net Line = false

abbrev pub is_new_pair : List Arc → ℕ → ℕ → Bool
is_new_pair xs p m = all (λ (a : Arc). not (a.place == p && a.move == m)) xs

-- a name that is to be given, at the byte b
abbrev pub name_checks : NetText → ℕ → List ℕ → List Check
name_checks x b n = check (is_name n) Field b ∷ check (is_new (names x) n) NameTaken b ∷ []

-- a name that is to be known, at the byte b
abbrev pub known_checks : List (List ℕ) → ℕ → List ℕ → List Check
known_checks ns b n = check (is_name n) Field b ∷ check (is_known ns n) NameUnknown b ∷ []

abbrev pub place_line_checks : NetText → ℕ → List Check
place_line_checks x at = check (none x.moves && none x.arcs) NoRecord at ∷ check (nat_lt (length x.places) most_places) TooMany at ∷ []

-- the tokens, at the byte b, and the limit
abbrev pub count_checks : ℕ → List ℕ → List ℕ → List Check
count_checks b t l =
    check (is_numeral count_digits t) Field b
    ∷ check (is_numeral count_digits l) Field (b + length t + 1)
    ∷ check (nat_le 1 (value l)) Field (b + length t + 1)
    ∷ check (nat_le (value t) (value l)) Field b
    ∷ []

abbrev pub place_checks : NetText → ℕ → List ℕ → List ℕ → List ℕ → List Check
place_checks x at n t l = place_line_checks x at ++ (name_checks x (at + 6) n ++ count_checks (at + 6 + length n + 1) t l)

abbrev pub move_line_checks : NetText → ℕ → List Check
move_line_checks x at = check (none x.arcs) NoRecord at ∷ check (nat_lt (length x.moves) most_moves) TooMany at ∷ []

abbrev pub letter_checks : ℕ → List ℕ → List Check
letter_checks b k = check (bytes_eq k (codes "c") || bytes_eq k (codes "u")) Field b ∷ []

abbrev pub move_checks : NetText → ℕ → List ℕ → List ℕ → List Check
move_checks x at n k = move_line_checks x at ++ (name_checks x (at + 5) n ++ letter_checks (at + 5 + length n + 1) k)

-- what the move takes, at the byte b, and what it gives
abbrev pub weight_checks : ℕ → List ℕ → List ℕ → List Check
weight_checks b t g =
    check (is_numeral arc_digits t) Field b
    ∷ check (is_numeral arc_digits g) Field (b + length t + 1)
    ∷ check (nat_le 1 (value t + value g)) Field b
    ∷ []

-- the arc between the place i and the move j
abbrev pub pair_checks : NetText → ℕ → ℕ → ℕ → List Check
pair_checks x at i j = check (is_new_pair x.arcs i j) ArcNotAllowed at ∷ check (is_net x.kind) ArcNotAllowed at ∷ []

abbrev pub arc_checks : NetText → ℕ → List ℕ → List ℕ → List ℕ → List ℕ → List Check
arc_checks x at p m t g =
    known_checks (place_names x) (at + 4) p
    ++ (known_checks (move_names x) (at + 4 + length p + 1) m
    ++ (weight_checks (at + 4 + length p + 1 + length m + 1) t g
    ++ pair_checks x at (index_of (place_names x) p) (index_of (move_names x) m)))

abbrev pub kind_checks : ℕ → List ℕ → List Check
kind_checks b k = check (is_kind k) Field b ∷ []

abbrev pub checks : Option NetText → ℕ → Shape → List Check
checks None at (a_plant k) = kind_checks (at + 6) k
checks None at (a_place n t l) = check false NoRecord at ∷ []
checks None at (a_move n k) = check false NoRecord at ∷ []
checks None at (an_arc p m t g) = check false NoRecord at ∷ []
checks None at no_record = check false NoRecord at ∷ []
checks (Some x) at (a_plant k) = check false NoRecord at ∷ []
checks (Some x) at (a_place n t l) = place_checks x at n t l
checks (Some x) at (a_move n k) = move_checks x at n k
checks (Some x) at (an_arc p m t g) = arc_checks x at p m t g
checks (Some x) at no_record = check false NoRecord at ∷ []

-- ---- what a line adds
abbrev pub begun : Kind → NetText
begun k = net k [] [] []

abbrev pub add_place : NetText → Place → NetText
add_place x p = net x.kind (x.places ++ (p ∷ [])) x.moves x.arcs

abbrev pub add_move : NetText → Move → NetText
add_move x m = net x.kind x.places (x.moves ++ (m ∷ [])) x.arcs

abbrev pub add_arc : NetText → Arc → NetText
add_arc x a = net x.kind x.places x.moves (x.arcs ++ (a ∷ []))

abbrev pub after : Option NetText → Shape → NetText
after None (a_plant k) = begun (kind_of k)
after None (a_place n t l) = begun Net
after None (a_move n k) = begun Net
after None (an_arc p m t g) = begun Net
after None no_record = begun Net
after (Some x) (a_plant k) = x
after (Some x) (a_place n t l) = add_place x (record { name = n; tokens = value t; limit = value l })
after (Some x) (a_move n k) = add_move x (record { name = n; controllable = bytes_eq k (codes "c") })
after (Some x) (an_arc p m t g) = add_arc x (record { place = index_of (place_names x) p; move = index_of (move_names x) m; take = value t; give = value g })
after (Some x) no_record = x

-- ---- the end
abbrev pub is_shaped : Kind → List Place → List Move → Bool
is_shaped Net ps ms = true
is_shaped Bank ps ms = length ps % 4 == 0 && (length ms == length ps && all (λ (p : Place). nat_eq p.limit 1) ps)
is_shaped Line ps ms = length ms == length ps + 1

abbrev pub is_whole : NetText → Bool
is_whole x = nat_le 1 (length x.places) && (nat_le 1 (length x.moves) && is_shaped x.kind x.places x.moves)

abbrev pub net_reader : Reader NetText
net_reader = record { checks = λ s at fs. checks s at (shape fs); after = λ s fs. after s (shape fs); is_whole = is_whole }

abbrev pub read_net : List ℕ → Result NetText TextFault
read_net bs = read_text net_reader bs
