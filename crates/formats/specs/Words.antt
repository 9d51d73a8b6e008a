-- What texts are made of: bytes, names, numbers, fields and lines.
--   Letter, Digit    a byte that is one
--   Shown            a byte that a field may have: 33 to 126
--   IsName           a letter, then up to 11 letters or digits
--   Numeral d f      f is the decimal writing of a number of at most d digits: no leading zero, except 0 itself
--   value f          the number that the digits of f write
--   New R xs x       none of xs is in the relation R to x
--   NewName ns n     n is none of the names ns
--   AllDifferent ns  no two of the names ns are the same
--   Known ns n       n is one of the names ns
--   Apart R xs       no two of xs are in the relation R
--   joined fs        the fields, parted by one tab (9)
--   unlines ls       the lines, each followed by a newline (10)
use Rattle.std.specs.Prelude.{◌≡◌, ℕ, suc, ◌+◌, ◌-◌, ◌*◌, ◌^◌, ◌<◌, ◌≤◌, Bool, true, false, cond, not, ◌&&◌, ◌||◌, ◌⊎◌, List, [], ◌∷◌, ◌++◌, length, decimal, ◌==◌, nat_le, nat_lt, slice_index, slice_index_or}
use Rattle.std.specs.List.{AllByRecursion}
use Rattle.std.specs.Str.{all_ascii_digits, bytes_eq}
use Rattle.model.specs.Sizes.{name_tail}

-- ---- what is meant
abbrev pub From : ℕ → ℕ → ℕ → Type 0
From low high b = (low ≤ b) × (b ≤ high)

abbrev pub Letter : ℕ → Type 0
Letter b = From 65 90 b ⊎ From 97 122 b

abbrev pub Digit : ℕ → Type 0
Digit b = From 48 57 b

abbrev pub Shown : ℕ → Type 0
Shown b = From 33 126 b

-- a byte that a text may have
abbrev pub Allowed : ℕ → Type 0
Allowed b = (b ≡ 9) ⊎ ((b ≡ 10) ⊎ Shown b)

abbrev pub IsName : List ℕ → Type 0
IsName [] = ⊥
IsName (b ∷ bs) = Letter b × AllByRecursion (λ c. Letter c ⊎ Digit c) bs × (length bs ≤ name_tail)

abbrev pub Numeral : ℕ → List ℕ → Type 0
Numeral d f = (v : ℕ) × (v < 10 ^ d) × (f ≡ decimal v)

abbrev pub Apart : {A : Type 0} → (A → A → Type 0) → List A → Type 0
Apart R [] = Unit {0}
Apart R (x ∷ xs) = AllByRecursion (λ y. R x y → ⊥) xs × Apart R xs

-- x is none of xs
abbrev pub New : {A : Type 0} → (A → A → Type 0) → List A → A → Type 0
New R xs x = AllByRecursion (λ y. R y x → ⊥) xs

-- of names
abbrev pub NewName : List (List ℕ) → List ℕ → Type 0
NewName ns n = New (λ m k. m ≡ k) ns n

abbrev pub AllDifferent : List (List ℕ) → Type 0
AllDifferent ns = Apart (λ m n. m ≡ n) ns

-- one of the names
abbrev pub Known : List (List ℕ) → List ℕ → Type 0
Known ns n = (i : ℕ) × (i < length ns) × (slice_index_or ns i [] ≡ n)

-- ---- how it is written
abbrev pub joined : List (List ℕ) → List ℕ
joined [] = []
joined (f ∷ []) = f
joined (f ∷ g ∷ gs) = f ++ (9 ∷ joined (g ∷ gs))

abbrev pub unlines : List (List ℕ) → List ℕ
unlines [] = []
unlines (l ∷ ls) = l ++ (10 ∷ unlines ls)

-- ---- how it is read
abbrev pub is_letter : ℕ → Bool
is_letter b = (nat_le 65 b && nat_le b 90) || (nat_le 97 b && nat_le b 122)

abbrev pub is_digit : ℕ → Bool
is_digit b = nat_le 48 b && nat_le b 57

abbrev pub is_allowed : ℕ → Bool
is_allowed b = b == 9 || (b == 10 || (nat_le 33 b && nat_le b 126))

-- a byte other than b
abbrev pub is_not : ℕ → ℕ → Bool
is_not b c = not (c == b)

abbrev pub all : {A : Type 0} → (A → Bool) → List A → Bool
all t [] = true
all t (x ∷ xs) = t x && all t xs

abbrev pub none : {A : Type 0} → List A → Bool
none [] = true
none (x ∷ xs) = false

abbrev pub is_name : List ℕ → Bool
is_name [] = false
is_name (b ∷ bs) = is_letter b && (all (λ c. is_letter c || is_digit c) bs && nat_le (length bs) name_tail)

abbrev pub value_after : ℕ → List ℕ → ℕ
value_after n [] = n
value_after n (c ∷ cs) = value_after (n * 10 + (c - 48)) cs

abbrev pub value : List ℕ → ℕ
value f = value_after 0 f

abbrev pub is_numeral : ℕ → List ℕ → Bool
is_numeral d f = all_ascii_digits f && (nat_lt 0 (length f) && (nat_le (length f) d && (not (slice_index f 0 == 48) || length f == 1)))

-- the byte goes in front of the first piece
abbrev pub onto : ℕ → List (List ℕ) → List (List ℕ)
onto b [] = (b ∷ []) ∷ []
onto b (f ∷ fs) = (b ∷ f) ∷ fs

-- the fields of a line: what stands before, between and after its tabs
abbrev pub fields : List ℕ → List (List ℕ)
fields [] = [] ∷ []
fields (b ∷ bs) = cond (b == 9) ([] ∷ fields bs) (onto b (fields bs))

-- the lines of a text: what stands before each newline
abbrev pub lines : List ℕ → List (List ℕ)
lines [] = []
lines (b ∷ bs) = cond (b == 10) ([] ∷ lines bs) (onto b (lines bs))

abbrev pub last : List ℕ → ℕ
last [] = 0
last (b ∷ []) = b
last (b ∷ c ∷ bs) = last (c ∷ bs)

-- the first index in names that has the name; their count if none has it
abbrev pub index_of : List (List ℕ) → List ℕ → ℕ
index_of [] n = 0
index_of (m ∷ ms) n = cond (bytes_eq m n) 0 (suc (index_of ms n))

abbrev pub is_new : List (List ℕ) → List ℕ → Bool
is_new ns n = all (λ m. not (bytes_eq m n)) ns

abbrev pub is_known : List (List ℕ) → List ℕ → Bool
is_known ns n = nat_lt (index_of ns n) (length ns)
