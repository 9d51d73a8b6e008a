-- Texts of lines, whatever their lines are: how one is read, and what it means that it is refused.
--   Check            a test, and the refusal and the byte if it fails
--   Clause           what is asked, and the refusal and the byte if it is not so
--   Keeps            each clause holds
--   Breaks cs r i    the first clause of cs that does not hold has the refusal r and the byte i; all before it hold
--   Reader           the tests of a kind of text: of a line's fields, with the value so far (None before the first line) and the byte
--                    where the line starts; the value after a line that passes; the test at the end
--   Meaning          what those tests are for: the clauses of a line, the rows (lines as lists of fields) that are written for a value,
--                    which values are right as far as they go, and which are whole
--   read_text        the checks of all the bytes, then line by line, then the end
--   written          the bytes that are written for a value: its rows, fields parted by a tab, each line ended by a newline
--   Refused bs f     bs is refused as f says: the first thing that is wrong with it, in the order of checks
use Rattle.std.specs.Prelude.{◌≡◌, ℕ, ◌+◌, ◌<◌, ◌≤◌, Bool, cond, ◌&&◌, ◌⊎◌, List, [], ◌∷◌, ◌++◌, map, length, Some, None, Ok, Err, Option, Result, ◌==◌, ◌≢◌, nat_le, nat_lt}
use Rattle.std.specs.List.{AllByRecursion}
use Rattle.model.specs.Sizes.{most_bytes}
use Rattle.model.specs.declared.refusal.Refusal.{Refusal}
use Rattle.model.specs.declared.refusal.Refusal.TheVariants.{Form, Byte, NotOfKind}
use Rattle.formats.specs.declared.fault.TextFault.{TextFault}
use Rattle.formats.specs.Words.{Allowed, is_allowed, joined, unlines, fields, lines, last}

abbrev pub fault : Refusal → ℕ → ℕ → TextFault
fault r k i = record { refusal = r; line = k; byte = i }

-- ---- tests in order
pub record Check : Type 0 where
  pub passes : Bool
  pub refusal : Refusal
  pub byte : ℕ

abbrev pub check : Bool → Refusal → ℕ → Check
check t r i = record { passes = t; refusal = r; byte = i }

abbrev pub first_failed : List Check → Option Check
first_failed [] = None
first_failed (c ∷ cs) = cond c.passes (first_failed cs) (Some c)

-- ---- clauses in order
pub record Clause : Type 1 where
  pub asks : Type 0
  pub refusal : Refusal
  pub byte : ℕ

abbrev pub clause : Type 0 → Refusal → ℕ → Clause
clause P c i = record { asks = P; refusal = c; byte = i }

abbrev pub Keeps : List Clause → Type 0
Keeps [] = Unit {0}
Keeps (r ∷ rs) = r.asks × Keeps rs

abbrev pub Breaks : List Clause → Refusal → ℕ → Type 0
Breaks [] c i = ⊥
Breaks (r ∷ rs) c i = ((r.asks → ⊥) × (r.refusal ≡ c) × (r.byte ≡ i)) ⊎ (r.asks × Breaks rs c i)

-- ---- reading
pub record Reader (X : Type 0) : Type 0 where
  pub checks : Option X → ℕ → List (List ℕ) → List Check
  pub after : Option X → List (List ℕ) → X
  pub is_whole : X → Bool

-- the text ends at the byte `at`; there is always a first line, so that the first case is never met
abbrev pub ended : {X : Type 0} → Reader X → Option X → ℕ → Result X TextFault
ended R None at = Err (fault Form 0 0)
ended R (Some x) at = cond (R.is_whole x) (Ok x) (Err (fault NotOfKind 0 at))

abbrev pub unless : {X : Type 0} → Option Check → ℕ → Result X TextFault → Result X TextFault
unless None k r = r
unless (Some c) k r = Err (fault c.refusal k c.byte)

-- the value so far, the line's number (from 1), the byte where it starts, the lines to come
abbrev pub read_lines : {X : Type 0} → Reader X → Option X → ℕ → ℕ → List (List ℕ) → Result X TextFault
read_lines R s k at [] = ended R s at
read_lines R s k at (l ∷ ls) =
    unless (first_failed (R.checks s at (fields l))) k (read_lines R (Some (R.after s (fields l))) (k + 1) (at + length l + 1) ls)

abbrev pub is_text : List ℕ → Bool
is_text bs = nat_lt 0 (length bs) && (nat_le (length bs) most_bytes && last bs == 10)

-- the first byte that is not allowed, on line k from byte i on
abbrev pub bad_byte : ℕ → ℕ → List ℕ → Option TextFault
bad_byte k i [] = None
bad_byte k i (b ∷ bs) = cond (is_allowed b) (bad_byte (cond (b == 10) (k + 1) k) (i + 1) bs) (Some (fault Byte k i))

abbrev pub unless_byte : {X : Type 0} → Option TextFault → Result X TextFault → Result X TextFault
unless_byte None r = r
unless_byte (Some f) r = Err f

unfoldable pub read_text : {X : Type 0} → Reader X → List ℕ → Result X TextFault
read_text R bs = cond (is_text bs) (unless_byte (bad_byte 1 0 bs) (read_lines R None 1 0 (lines bs))) (Err (fault Form 0 0))

-- ---- meaning
pub record Meaning (X : Type 0) : Type 1 where
  pub clauses : Option X → ℕ → List (List ℕ) → List Clause
  pub rows : X → List (List (List ℕ))
  pub Right : X → Type 0
  pub Complete : X → Type 0

unfoldable pub written : {X : Type 0} → Meaning X → X → List ℕ
written M x = unlines (map joined (M.rows x))

pub record Proper {X : Type 0} (M : Meaning X) (x : X) : Type 0 where
  pub right : M.Right x
  pub complete : M.Complete x
  pub short : length (written M x) ≤ most_bytes

abbrev pub so_far : {X : Type 0} → Meaning X → Option X → List ℕ
so_far M None = []
so_far M (Some x) = written M x

abbrev pub lines_so_far : {X : Type 0} → Meaning X → Option X → ℕ
lines_so_far M None = 0
lines_so_far M (Some x) = length (M.rows x)

abbrev pub RightSoFar : {X : Type 0} → Meaning X → Option X → Type 0
RightSoFar M None = Unit {0}
RightSoFar M (Some x) = M.Right x

abbrev pub IsText : List ℕ → Type 0
IsText bs = (0 < length bs) × (length bs ≤ most_bytes) × (last bs ≡ 10)

abbrev pub newlines : List ℕ → ℕ
newlines [] = 0
newlines (b ∷ bs) = cond (b == 10) 1 0 + newlines bs

pub data Refused {X : Type 0} (M : Meaning X) (bs : List ℕ) (f : TextFault) : Type 0 where
  -- 10
  no_text : (IsText bs → ⊥) → f ≡ fault Form 0 0 → Refused M bs f
  -- 11: all bytes before it are allowed
  no_byte : IsText bs → (front : List ℕ) (b : ℕ) (back : List ℕ) → bs ≡ front ++ (b ∷ back) → AllByRecursion Allowed front → (Allowed b → ⊥)
      → f ≡ fault Byte (newlines front + 1) (length front) → Refused M bs f
  -- 12 to 17 and 19: all lines before it are those of a value s that is right so far, and this line breaks a clause
  no_line : IsText bs → AllByRecursion Allowed bs → (s : Option X) (l rest : List ℕ) → RightSoFar M s → bs ≡ so_far M s ++ (l ++ (10 ∷ rest)) → AllByRecursion (λ b. b ≢ 10) l
      → (c : Refusal) (i : ℕ) → Breaks (M.clauses s (length (so_far M s)) (fields l)) c i
      → f ≡ fault c (lines_so_far M s + 1) i → Refused M bs f
  -- 18: the whole is the text of x, which is right so far, and x is not complete
  no_end : IsText bs → AllByRecursion Allowed bs → (x : X) → M.Right x → bs ≡ written M x → (M.Complete x → ⊥)
      → f ≡ fault NotOfKind 0 (length bs) → Refused M bs f

-- ---- the laws
-- a text is read as x just where x is proper and the text is written so
abbrev pub Exact : {X : Type 0} → Reader X → Meaning X → Type 0
Exact {X} R M = (bs : List ℕ) (x : X) → (read_text R bs ≡ Ok x → Proper M x × (bs ≡ written M x)) × (Proper M x → bs ≡ written M x → read_text R bs ≡ Ok x)

-- a text is refused with f just where it is to be refused so
abbrev pub Refusals : {X : Type 0} → Reader X → Meaning X → Type 0
Refusals R M = (bs : List ℕ) (f : TextFault) → (read_text R bs ≡ Err f → Refused M bs f) × (Refused M bs f → read_text R bs ≡ Err f)

-- each text is the text of one proper value, or has one refusal, and never both
abbrev pub EachText : {X : Type 0} → Meaning X → Type 0
EachText {X} M = (bs : List ℕ)
    → (((x : X) × Proper M x × (bs ≡ written M x)) ⊎ ((f : TextFault) × Refused M bs f))
    × (((x y : X) → Proper M x → Proper M y → bs ≡ written M x → bs ≡ written M y → x ≡ y)
    × (((f g : TextFault) → Refused M bs f → Refused M bs g → f ≡ g)
    × ((x : X) (f : TextFault) → Proper M x → bs ≡ written M x → Refused M bs f → ⊥)))
