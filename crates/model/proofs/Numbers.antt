-- The number of a refusal tells which it is.
use Rattle.std.proofs.Common.{◌≡◌, ℕ, cond, eqb, refl, sym, ap, ◌∙◌}
use Rattle.model.specs.declared.refusal.Refusal.{Refusal}
use Rattle.model.specs.declared.refusal.Refusal.TheVariants.{Form, Byte, NoRecord, Field, NameTaken, NameUnknown, TooMany, ArcNotAllowed, NotOfKind, Sum, NotAbsorbed, TooLarge, TooManyRounds, Broken, Shut, NotTyped, NoMove, Uncontrollable, Controllable, TooManyOpen, Short, NoRoom, NotOpen, GrantsOpen, NoRow, RowInUse, OverLimit}
use Rattle.model.specs.Refusals.{refusal_number}
use Rattle.model.specs.Order.{NumbersApart}

-- the refusal of a number
abbrev back : ℕ → Refusal
back n = cond (eqb n 40) OverLimit (cond (eqb n 39) RowInUse (cond (eqb n 38) NoRow (cond (eqb n 37) GrantsOpen (cond (eqb n 36) NotOpen (cond (eqb n 35) NoRoom (cond (eqb n 34) Short (cond (eqb n 33) TooManyOpen (cond (eqb n 32) Controllable (cond (eqb n 31) Uncontrollable (cond (eqb n 30) NoMove (cond (eqb n 25) NotTyped (cond (eqb n 24) Shut (cond (eqb n 23) Broken (cond (eqb n 22) TooManyRounds (cond (eqb n 21) TooLarge (cond (eqb n 20) NotAbsorbed (cond (eqb n 19) Sum (cond (eqb n 18) NotOfKind (cond (eqb n 17) ArcNotAllowed (cond (eqb n 16) TooMany (cond (eqb n 15) NameUnknown (cond (eqb n 14) NameTaken (cond (eqb n 13) Field (cond (eqb n 12) NoRecord (cond (eqb n 11) Byte Form)))))))))))))))))))))))))

back_is : (r : Refusal) → back (refusal_number r) ≡ r
back_is Form = refl
back_is Byte = refl
back_is NoRecord = refl
back_is Field = refl
back_is NameTaken = refl
back_is NameUnknown = refl
back_is TooMany = refl
back_is ArcNotAllowed = refl
back_is NotOfKind = refl
back_is Sum = refl
back_is NotAbsorbed = refl
back_is TooLarge = refl
back_is TooManyRounds = refl
back_is Broken = refl
back_is Shut = refl
back_is NotTyped = refl
back_is NoMove = refl
back_is Uncontrollable = refl
back_is Controllable = refl
back_is TooManyOpen = refl
back_is Short = refl
back_is NoRoom = refl
back_is NotOpen = refl
back_is GrantsOpen = refl
back_is NoRow = refl
back_is RowInUse = refl
back_is OverLimit = refl

pub numbers_apart : NumbersApart
numbers_apart r s e = sym (back_is r) ∙ ap back e ∙ back_is s
