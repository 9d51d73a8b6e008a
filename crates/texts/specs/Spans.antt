-- Parts of a text, names that are looked up, and checks of a line.
--   span s n         the part that starts at byte s and has n bytes
--   part_of bs s     the bytes of the span s of the text bs
--   titles_of bs t xs  the names of the items xs, whose spans t tells, as parts of the text bs
--   found ns n       the index of the name n in the names ns, if one of them is n
--   checked cs k v   v, unless one of the checks cs fails on line k
--   Told r P Q       r is an answer a with P a, or a refusal f with Q f; nothing is said where there was no memory
--   line_start bs i  the byte where line i of the text bs starts, lines counted from 0
use Rattle.std.specs.Prelude.{ℕ, cond, List, map, length, take, drop, Some, None, Ok, Err, Option, Result}
use Rattle.formats.specs.Words.{is_known, index_of, lines, unlines}
use Rattle.formats.specs.declared.fault.TextFault.{TextFault}
use Rattle.formats.specs.Texts.{Check, first_failed, unless}
use Rattle.texts.specs.declared.span.Span.{Span}
use Rattle.texts.specs.declared.stop.ReadError.{ReadError}
use Rattle.texts.specs.declared.stop.ReadError.TheVariants.{Refused, NoMemory}

abbrev pub span : ℕ → ℕ → Span
span s n = record { start = s; len = n }

abbrev pub part_of : List ℕ → Span → List ℕ
part_of bs s = take s.len (drop s.start bs)

abbrev pub titles_of : {A : Type 0} → List ℕ → (A → Span) → List A → List (List ℕ)
titles_of bs t xs = map (λ x. part_of bs (t x)) xs

abbrev pub found : List (List ℕ) → List ℕ → Option ℕ
found ns n = cond (is_known ns n) (Some (index_of ns n)) None

abbrev pub checked : {A : Type 0} → List Check → ℕ → A → Result A TextFault
checked cs k v = unless (first_failed cs) k (Ok v)

abbrev pub Told : {A : Type 0} → Result A ReadError → (A → Type 0) → (TextFault → Type 0) → Type 0
Told (Ok a) P Q = P a
Told (Err (Refused f)) P Q = Q f
Told (Err NoMemory) P Q = Unit {0}

abbrev pub line_start : List ℕ → ℕ → ℕ
line_start bs i = length (unlines (take i (lines bs)))
