-- What a read net stands for.
--   place_of, move_of, arc_of, net_of    the value of a place, a move, an arc and a whole net that was read from the text bs
--   place_titles, move_titles    the names of a net's places and moves
--   no_place, no_move    what is read past the end of the records
--   tokens_at, limit_at  the tokens and the limit of the place p, by its record; 0 where there is none
--   letter_at        whether the move t is controllable, by its record; not where there is none
use Rattle.std.specs.Prelude.{ℕ, Bool, false, List, map, vec_items, slice_index_or}
use Rattle.formats.specs.NetText as value
use Rattle.texts.specs.Spans.{span, part_of}
use Rattle.net_text.specs.declared.net.Place.{Place}
use Rattle.net_text.specs.declared.net.Move.{Move}
use Rattle.net_text.specs.declared.net.Arc.{Arc}
use Rattle.net_text.specs.declared.net.NetText.{NetText}

abbrev pub place_of : List ℕ → Place → value.Place
place_of bs p = record { name = part_of bs p.name; tokens = p.tokens; limit = p.limit }

abbrev pub move_of : List ℕ → Move → value.Move
move_of bs m = record { name = part_of bs m.name; controllable = m.controllable }

abbrev pub arc_of : Arc → value.Arc
arc_of a = record { place = a.place; move = a.transition; take = a.take; give = a.give }

abbrev pub net_of : List ℕ → NetText → value.NetText
net_of bs n = value.net n.kind (map (place_of bs) (vec_items n.places)) (map (move_of bs) (vec_items n.moves)) (map arc_of (vec_items n.arcs))

-- the names of the places and of the moves
abbrev pub place_titles : List ℕ → NetText → List (List ℕ)
place_titles bs n = map (λ (p : Place). part_of bs p.name) (vec_items n.places)

abbrev pub move_titles : List ℕ → NetText → List (List ℕ)
move_titles bs n = map (λ (m : Move). part_of bs m.name) (vec_items n.moves)

-- what is read of the records past their end
abbrev pub no_place : Place
no_place = record { name = span 0 0; tokens = 0; limit = 0 }

abbrev pub no_move : Move
no_move = record { name = span 0 0; controllable = false }

-- what the records of the places say of the place p, and those of the moves of the move t
abbrev pub tokens_at : List Place → ℕ → ℕ
tokens_at ps p = (slice_index_or ps p no_place).tokens

abbrev pub limit_at : List Place → ℕ → ℕ
limit_at ps p = (slice_index_or ps p no_place).limit

abbrev pub letter_at : List Move → ℕ → Bool
letter_at ms t = (slice_index_or ms t no_move).controllable
