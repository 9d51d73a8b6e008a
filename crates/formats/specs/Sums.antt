-- Sums of named places: what they are, how they are written, what they weigh, and how they are read.
--   Part             a part: its sign, its number if it has one, its place by index
--   amount q         what the part adds to its place's weight: its number, 1 if none, with its sign
--   weight qs p      the weight of the place p by the parts qs
--   ProperSum ns qs  at least one part; each has a place of ns and a number 1 to 99 or none; no weight ever leaves -99 to 99
--   sum_written      the bytes of a sum
--   Piece            what stands between two signs, with the sign before it (at the start: a minus or nothing)
--   digits, body, title, left    of a piece: the digits at its start; what follows them and a star; the name there, up to 12 letters and
--                    digits; what is left after it
--   read_sum         the sum of a field that starts at a byte, or the refusal and its byte
use Rattle.std.specs.Prelude.{◌≡◌, ℕ, ◌+◌, ◌^◌, ◌<◌, ◌≤◌, min, Bool, true, false, cond, ◌&&◌, ◌||◌, ◌⊎◌, List, [], ◌∷◌, ◌++◌, map, length, take, drop, ℤ, pos, ◌+ℤ◌, neg_ℤ, Some, None, Ok, Err, decimal, Option, Result, ◌==◌, nat_le, slice_index, slice_index_or, unsigned_abs}
use Rattle.std.specs.List.{prefix_len, AllByRecursion}
use Rattle.model.specs.Sizes.{name_tail, factor_digits, most_weight}
use Rattle.model.specs.declared.refusal.Refusal.{Refusal}
use Rattle.model.specs.declared.refusal.Refusal.TheVariants.{NameUnknown, Sum}
use Rattle.formats.specs.Words.{none, Letter, IsName, Numeral, Known, is_letter, is_digit, is_numeral, is_known, value, index_of, AllDifferent}
use Rattle.formats.specs.Texts.{Check, check, first_failed, Clause, clause, Breaks}

pub record Part : Type 0 where
  pub minus : Bool
  pub number : Option ℕ
  pub place : ℕ

abbrev pub times : Option ℕ → ℕ
times None = 1
times (Some n) = n

abbrev pub with_sign : Bool → ℕ → ℤ
with_sign true n = neg_ℤ (pos n)
with_sign false n = pos n

abbrev pub amount : Part → ℤ
amount q = with_sign q.minus (times q.number)

abbrev pub weight : List Part → ℕ → ℤ
weight [] p = pos 0
weight (q ∷ qs) p = cond (q.place == p) (amount q) (pos 0) +ℤ weight qs p

-- ---- which sums are proper
abbrev pub NumberFits : Option ℕ → Type 0
NumberFits None = Unit {0}
NumberFits (Some n) = (1 ≤ n) × (n < 10 ^ factor_digits)

-- the parts qs after the parts before them
abbrev pub Running : List (List ℕ) → List Part → List Part → Type 0
Running ns done [] = Unit {0}
Running ns done (q ∷ qs) = (q.place < length ns) × NumberFits q.number × (unsigned_abs (weight done q.place +ℤ amount q) ≤ most_weight) × Running ns (done ++ (q ∷ [])) qs

abbrev pub ProperSum : List (List ℕ) → List Part → Type 0
ProperSum ns qs = (1 ≤ length qs) × Running ns [] qs

-- ---- how a sum is written
abbrev pub part_bytes : Option ℕ → List ℕ → List ℕ
part_bytes None n = n
part_bytes (Some v) n = decimal v ++ (42 ∷ n)

abbrev pub sign_of : Bool → ℕ
sign_of true = 45
sign_of false = 43

abbrev pub lead : Bool → List ℕ
lead true = 45 ∷ []
lead false = []

abbrev pub more_written : List (List ℕ) → List Part → List ℕ
more_written ns [] = []
more_written ns (q ∷ qs) = sign_of q.minus ∷ (part_bytes q.number (slice_index_or ns q.place []) ++ more_written ns qs)

abbrev pub sum_written : List (List ℕ) → List Part → List ℕ
sum_written ns [] = []
sum_written ns (q ∷ qs) = lead q.minus ++ (part_bytes q.number (slice_index_or ns q.place []) ++ more_written ns qs)

-- ---- pieces
pub record Piece : Type 0 where
  pub minus : Bool
  pub bytes : List ℕ

abbrev pub piece : Bool → List ℕ → Piece
piece m b = record { minus = m; bytes = b }

abbrev pub is_sign : ℕ → Bool
is_sign b = b == 43 || b == 45

-- the byte goes in front of the first piece
abbrev pub put : ℕ → List Piece → List Piece
put b [] = []
put b (p ∷ ps) = piece p.minus (b ∷ p.bytes) ∷ ps

abbrev pub pieces : Bool → List ℕ → List Piece
pieces m [] = piece m [] ∷ []
pieces m (b ∷ bs) = cond (is_sign b) (piece m [] ∷ pieces (b == 45) bs) (put b (pieces m bs))

-- the pieces of a field, and how many bytes stand before the first
abbrev pub terms : List ℕ → List Piece
terms [] = pieces false []
terms (b ∷ bs) = cond (b == 45) (pieces true bs) (pieces false (b ∷ bs))

abbrev pub lead_length : List ℕ → ℕ
lead_length [] = 0
lead_length (b ∷ bs) = cond (b == 45) 1 0

-- ---- a piece
abbrev pub digits : List ℕ → List ℕ
digits p = take (prefix_len is_digit p) p

abbrev pub body_at : List ℕ → ℕ
body_at p = cond (none (digits p)) 0 (length (digits p) + 1)

abbrev pub body : List ℕ → List ℕ
body p = drop (body_at p) p

abbrev pub title : List ℕ → List ℕ
title p = take (min (name_tail + 1) (prefix_len (λ c. is_letter c || is_digit c) (body p))) (body p)

abbrev pub left : List ℕ → List ℕ
left p = drop (length (title p)) (body p)

abbrev pub begins_name : List ℕ → Bool
begins_name [] = false
begins_name (b ∷ bs) = is_letter b

abbrev pub BeginsName : List ℕ → Type 0
BeginsName [] = ⊥
BeginsName (b ∷ bs) = Letter b

-- the part that a piece stands for, if it passes
abbrev pub part_of : List (List ℕ) → Bool → List ℕ → Part
part_of ns m p = record { minus = m; number = cond (none (digits p)) None (Some (value (digits p))); place = index_of ns (title p) }

abbrev pub piece_checks : List (List ℕ) → ℕ → List Part → Bool → List ℕ → List Check
piece_checks ns at done m p =
    check (none (digits p) || (is_numeral factor_digits (digits p) && nat_le 1 (value (digits p)))) Sum at
    ∷ check (none (digits p) || slice_index p (length (digits p)) == 42) Sum (at + length (digits p))
    ∷ check (begins_name (body p)) Sum (at + body_at p)
    ∷ check (is_known ns (title p)) NameUnknown (at + body_at p)
    ∷ check (nat_le (unsigned_abs (weight done (index_of ns (title p)) +ℤ amount (part_of ns m p))) most_weight) Sum (at + body_at p)
    ∷ check (none (left p)) Sum (at + body_at p + length (title p))
    ∷ []

abbrev pub piece_clauses : List (List ℕ) → ℕ → List Part → Bool → List ℕ → List Clause
piece_clauses ns at done m p =
    clause ((digits p ≡ []) ⊎ (Numeral factor_digits (digits p) × (1 ≤ value (digits p)))) Sum at
    ∷ clause ((digits p ≡ []) ⊎ (slice_index p (length (digits p)) ≡ 42)) Sum (at + length (digits p))
    ∷ clause (BeginsName (body p)) Sum (at + body_at p)
    ∷ clause (Known ns (title p)) NameUnknown (at + body_at p)
    ∷ clause (unsigned_abs (weight done (index_of ns (title p)) +ℤ amount (part_of ns m p)) ≤ most_weight) Sum (at + body_at p)
    ∷ clause (left p ≡ []) Sum (at + body_at p + length (title p))
    ∷ []

-- ---- a sum: the first of the pieces starts at the byte `at`, after the parts `done`
abbrev pub sum_of : List (List ℕ) → List Piece → List Part
sum_of ns ps = map (λ (p : Piece). part_of ns p.minus p.bytes) ps

abbrev pub sum_checks : List (List ℕ) → ℕ → List Part → List Piece → List Check
sum_checks ns at done [] = []
sum_checks ns at done (p ∷ ps) =
    piece_checks ns at done p.minus p.bytes ++ sum_checks ns (at + length p.bytes + 1) (done ++ (part_of ns p.minus p.bytes ∷ [])) ps

abbrev pub sum_clauses : List (List ℕ) → ℕ → List Part → List Piece → List Clause
sum_clauses ns at done [] = []
sum_clauses ns at done (p ∷ ps) =
    piece_clauses ns at done p.minus p.bytes ++ sum_clauses ns (at + length p.bytes + 1) (done ++ (part_of ns p.minus p.bytes ∷ [])) ps

abbrev pub unless_sum : Option Check → List Part → Result (List Part) Check
unless_sum None qs = Ok qs
unless_sum (Some c) qs = Err c

-- the sum in the field f that starts at the byte `at`
unfoldable pub read_sum : List (List ℕ) → ℕ → List ℕ → Result (List Part) Check
read_sum ns at f = unless_sum (first_failed (sum_checks ns (at + lead_length f) [] (terms f))) (sum_of ns (terms f))

-- ---- the laws, over names that are names and all differ
-- a field is read as the sum qs just where qs is proper and the field is written so
abbrev pub SumExact : Type 0
SumExact = (ns : List (List ℕ)) (at : ℕ) (f : List ℕ) (qs : List Part) → AllByRecursion IsName ns → AllDifferent ns
    → (read_sum ns at f ≡ Ok qs → ProperSum ns qs × (f ≡ sum_written ns qs)) × (ProperSum ns qs → f ≡ sum_written ns qs → read_sum ns at f ≡ Ok qs)

-- a field is refused just where a clause is broken, and all before it are kept
abbrev pub SumRefusals : Type 0
SumRefusals = (ns : List (List ℕ)) (at : ℕ) (f : List ℕ) (c : Refusal) (i : ℕ)
    → (((d : Check) × (read_sum ns at f ≡ Err d) × (d.refusal ≡ c) × (d.byte ≡ i)) → Breaks (sum_clauses ns (at + lead_length f) [] (terms f)) c i)
    × (Breaks (sum_clauses ns (at + lead_length f) [] (terms f)) c i → (d : Check) × (read_sum ns at f ≡ Err d) × (d.refusal ≡ c) × (d.byte ≡ i))

-- one more part adds its amount to its place and to no other
abbrev pub WeightPush : Type 0
WeightPush = (qs : List Part) (q : Part) (p : ℕ) → weight (qs ++ (q ∷ [])) p ≡ weight qs p +ℤ cond (q.place == p) (amount q) (pos 0)

-- a proper sum weighs each place with -99 to 99, and nothing else
abbrev pub WeightsIn : Type 0
WeightsIn = (ns : List (List ℕ)) (qs : List Part) → ProperSum ns qs → (p : ℕ) → (unsigned_abs (weight qs p) ≤ most_weight) × (length ns ≤ p → weight qs p ≡ pos 0)
