-- The lines of a text, each with where it stands.
--   line_at k s        line k, which starts at byte s
--   numbered at ls     the lines ls of a text, the first of which stands at `at`
--   numbered_lines bs  the lines of the text bs
--   read_on R x n ls   what a reader answers for the lines ls of a text of n bytes, from the value x so far
--   line_seen          a line as the walk gives it
--   lines_left         the lines that the walk still gives
use Rattle.std.specs.Prelude.{ℕ, ◌+◌, List, [], ◌∷◌, length, Some, Option, Result}
use Rattle.std.specs.Borrow.{Bor}
use Rattle.formats.specs.declared.fault.TextFault.{TextFault}
use Rattle.formats.specs.Words.{fields, lines}
use Rattle.formats.specs.Texts.{Reader, first_failed, unless, ended}
use Rattle.texts.specs.declared.at.At.{At}
use Rattle.texts.specs.declared.walk.Lines.{Lines}

abbrev pub line_at : ℕ → ℕ → At
line_at k s = record { line = k; byte = s }

abbrev pub numbered : At → List (List ℕ) → List (At × List ℕ)
numbered at [] = []
numbered at (l ∷ ls) = (at, l) ∷ numbered (line_at (at.line + 1) (at.byte + length l + 1)) ls

abbrev pub numbered_lines : List ℕ → List (At × List ℕ)
numbered_lines bs = numbered (line_at 1 0) (lines bs)

-- the same as `read_lines` of `formats`, where each line says where it stands
abbrev pub read_on : {X : Type 0} → Reader X → Option X → ℕ → List (At × List ℕ) → Result X TextFault
read_on R s n [] = ended R s n
read_on R s n (l ∷ ls) = unless (first_failed (R.checks s l.0.byte (fields l.1))) l.0.line (read_on R (Some (R.after s (fields l.1))) n ls)

-- a line as `next` gives it
abbrev pub line_seen : At × Bor (List ℕ) → At × List ℕ
line_seen x = (x.0, x.1.now)

abbrev pub lines_left : Lines → List (At × List ℕ)
lines_left it = numbered it.at (lines it.rest.now)
