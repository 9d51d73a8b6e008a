-- What the reader of sums answers.
--   Tells post f     what a test answers of each byte is what f says of it
--   next_of b        what the byte b is to a sum: a plus, a minus, a star, or another
--   next_at f i      what stands at the byte i of the field f, by which its sum goes on
--   no_sign c        whether the byte c is no sign
--   piece_at f i     the piece of f that starts at its byte i: what stands up to the next sign
--   number_checks, name_checks, term_checks    the checks of a piece's number, of its name, and of both, in their order
--   number_of p      the number of the piece p, 1 if it has none
--   factor_of ds     the number that the digits ds write, if it is one that may stand before a star
--   Rest f i j       what follows the number and the star of the piece at i is the piece at j
--   title_of q       the name that q begins with
--   term_at ns i p   the part that is read of the piece p, which starts at the byte i of its field, over places of the names ns
--   Weighs ws qs     ws are the weights that the parts qs give to the places
--   SumRead ps k at f r    r are the weights of the field f, on line k at the byte `at`, over places of the names ps; or its refusal
use Rattle.std.specs.Prelude.{◌≡◌, ℕ, ◌+◌, min, Bool, cond, not, ◌&&◌, ◌||◌, ◌==◌, nat_le, nat_lt, List, [], ◌∷◌, ◌++◌, length, take, drop, ℤ, pos, Some, None, Ok, Err, Option, Result, slice_index, slice_index_or}
use Rattle.std.specs.List.{prefix_len}
use Rattle.model.specs.Sizes.{name_tail, factor_digits}
use Rattle.model.specs.declared.refusal.Refusal.TheVariants.{NameUnknown, Sum}
use Rattle.formats.specs.declared.fault.TextFault.{TextFault}
use Rattle.formats.specs.Words.{none, is_letter, is_digit, is_numeral, is_known, value, index_of}
use Rattle.formats.specs.Texts.{Check, check, first_failed}
use Rattle.formats.specs.Sums.{Part, weight, is_sign, terms, lead_length, digits, body_at, body, title, begins_name, sum_of, sum_checks}
use Rattle.texts.specs.Spans.{checked}
use Rattle.rules_text.specs.declared.part.Next.{Next}
use Rattle.rules_text.specs.declared.part.Next.TheVariants.{Plus, Minus, Times, Other, End}
use Rattle.rules_text.specs.declared.part.Term.{Term}

abbrev pub Tells : (ℕ → Bool → Type 0) → (ℕ → Bool) → Type 0
Tells post f = (c : ℕ) (b : Bool) → post c b → b ≡ f c

abbrev pub next_of : ℕ → Next
next_of b = cond (b == 43) Plus (cond (b == 45) Minus (cond (b == 42) Times Other))

abbrev pub next_at : List ℕ → ℕ → Next
next_at f i = cond (nat_lt i (length f)) (next_of (slice_index f i)) End

abbrev pub no_sign : ℕ → Bool
no_sign c = not (is_sign c)

abbrev pub piece_at : List ℕ → ℕ → List ℕ
piece_at f i = take (prefix_len no_sign (drop i f)) (drop i f)

-- ---- a piece that starts at the byte `at` of the text
abbrev pub number_checks : ℕ → List ℕ → List Check
number_checks at p =
    check (none (digits p) || (is_numeral factor_digits (digits p) && nat_le 1 (value (digits p)))) Sum at
    ∷ check (none (digits p) || slice_index p (length (digits p)) == 42) Sum (at + length (digits p))
    ∷ []

abbrev pub number_of : List ℕ → ℕ
number_of p = cond (none (digits p)) 1 (value (digits p))

abbrev pub factor_of : List ℕ → Option ℕ
factor_of ds = cond (is_numeral factor_digits ds && nat_le 1 (value ds)) (Some (value ds)) None

-- j is where the body of the piece that starts at i stands
abbrev pub Rest : List ℕ → ℕ → ℕ → Type 0
Rest f i j = (body (piece_at f i) ≡ piece_at f j) × (i + length (piece_at f i) ≡ j + length (piece_at f j))

abbrev pub title_of : List ℕ → List ℕ
title_of q = take (min (name_tail + 1) (prefix_len (λ c. is_letter c || is_digit c) q)) q

abbrev pub name_checks : List (List ℕ) → ℕ → List ℕ → List Check
name_checks ns at q = check (begins_name q) Sum at ∷ check (is_known ns (title_of q)) NameUnknown at ∷ []

abbrev pub term_checks : List (List ℕ) → ℕ → List ℕ → List Check
term_checks ns at p = number_checks at p ++ name_checks ns (at + body_at p) (body p)

abbrev pub term_at : List (List ℕ) → ℕ → List ℕ → Term
term_at ns i p = record { number = number_of p; place = index_of ns (title p); name = i + body_at p; end = i + body_at p + length (title p) }

-- ---- a sum
abbrev pub Weighs : List ℤ → List Part → Type 0
Weighs ws qs = (p : ℕ) → slice_index_or ws p (pos 0) ≡ weight qs p

abbrev pub SumRead : List (List ℕ) → ℕ → ℕ → List ℕ → Result (List ℤ) TextFault → Type 0
SumRead ps k at f (Ok ws) = (first_failed (sum_checks ps (at + lead_length f) [] (terms f)) ≡ None) × Weighs ws (sum_of ps (terms f))
SumRead ps k at f (Err e) = Err e ≡ checked {A = Unit {0}} (sum_checks ps (at + lead_length f) [] (terms f)) k tt
