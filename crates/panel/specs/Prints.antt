-- What is printed: lines of fields, written as the lines of the texts are.
--   printed_line fs  a line with the fields fs
--   bad_line w f     `bad w NUMBER LINE BYTE`: the text w is refused with f
--   at_line n free   `at n FREE`: the place n has so many free tokens
--   ok_line          `ok`: a call is accepted
--   refused_line r m p    `no NUMBER m p`: an order is refused with r, for the move m at the place p
--   no_line r        `no NUMBER - -`: with no move and no place to name
use Rattle.std.specs.Prelude.{ℕ, List, [], ◌∷◌, ◌++◌, codes, decimal}
use Rattle.model.specs.declared.refusal.Refusal.{Refusal}
use Rattle.model.specs.Refusals.{refusal_number}
use Rattle.formats.specs.declared.fault.TextFault.{TextFault}
use Rattle.formats.specs.Words.{joined}

abbrev pub printed_line : List (List ℕ) → List ℕ
printed_line fs = joined fs ++ (10 ∷ [])

abbrev pub bad_line : List ℕ → TextFault → List ℕ
bad_line w f = printed_line (codes "bad" ∷ w ∷ decimal (refusal_number f.refusal) ∷ decimal f.line ∷ decimal f.byte ∷ [])

abbrev pub at_line : List ℕ → ℕ → List ℕ
at_line n free = printed_line (codes "at" ∷ n ∷ decimal free ∷ [])

abbrev pub ok_line : List ℕ
ok_line = printed_line (codes "ok" ∷ [])

abbrev pub refused_line : Refusal → List ℕ → List ℕ → List ℕ
refused_line r m p = printed_line (codes "no" ∷ decimal (refusal_number r) ∷ m ∷ p ∷ [])

abbrev pub no_line : Refusal → List ℕ
no_line r = refused_line r (codes "-") (codes "-")
