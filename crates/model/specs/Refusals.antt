-- The number of each refusal, with what it says.
--   refusal_number   the number by which a refusal is printed and documented; no two refusals have the same
use Rattle.std.specs.Prelude.{ℕ}
use Rattle.model.specs.declared.refusal.Refusal.{Refusal}
use Rattle.model.specs.declared.refusal.Refusal.TheVariants.{Form, Byte, NoRecord, Field, NameTaken, NameUnknown, TooMany, ArcNotAllowed, NotOfKind, Sum, NotAbsorbed, TooLarge, TooManyRounds, Broken, Shut, NotTyped, NoMove, Uncontrollable, Controllable, TooManyOpen, Short, NoRoom, NotOpen, GrantsOpen, NoRow, RowInUse, OverLimit}

abbrev pub refusal_number : Refusal → ℕ
-- a text is empty, too long, or does not end in a newline
refusal_number Form = 10
-- a byte that no text may have
refusal_number Byte = 11
-- a record word that is not allowed here, or a wrong count of fields
refusal_number NoRecord = 12
-- a field is not a name, number or kind as stated
refusal_number Field = 13
-- the name is given already
refusal_number NameTaken = 14
-- no place or move has the name
refusal_number NameUnknown = 15
-- too many places, moves or rules
refusal_number TooMany = 16
-- an arc given again, or in a plant whose kind says its arcs
refusal_number ArcNotAllowed = 17
-- the counts or limits are not those of a plant of this kind
refusal_number NotOfKind = 18
-- a sum that is not written as a sum is, or weighs too much
refusal_number Sum = 19
-- there is no ground place from which an uncontrollable move that raises the rule takes more than it gives
refusal_number NotAbsorbed = 20
-- a weight or a bound grows too large in working
refusal_number TooLarge = 21
-- the rule is not worked after all the rounds there may be
refusal_number TooManyRounds = 22
-- the tokens that stand now break the worked rule
refusal_number Broken = 23
-- the layer has no room for control places
refusal_number Shut = 24
-- the rule is none that can be typed
refusal_number NotTyped = 25
-- there is no such move
refusal_number NoMove = 30
-- nobody can grant an uncontrollable move
refusal_number Uncontrollable = 31
-- nobody reports a controllable move
refusal_number Controllable = 32
-- as many grants are open as there may be
refusal_number TooManyOpen = 33
-- a place has fewer free tokens than the move takes
refusal_number Short = 34
-- a place would not have room
refusal_number NoRoom = 35
-- no grant of the move is open
refusal_number NotOpen = 36
-- a grant is open
refusal_number GrantsOpen = 37
-- the board has no such row
refusal_number NoRow = 38
-- the row has a rule
refusal_number RowInUse = 39
-- a place would go over its limit
refusal_number OverLimit = 40
