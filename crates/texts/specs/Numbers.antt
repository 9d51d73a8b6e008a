-- What the readers answer of bytes and fields.
--   most_digits      the most digits of which every number fits 32 bits
--   is_word b        b is a letter or a digit
--   digits_of f      the number that the digits of f write, if all its bytes are digits
--   number_of d f    the number that the field f writes, if it is one of at most d digits
use Rattle.std.specs.Prelude.{ℕ, Bool, cond, ◌||◌, List, Some, None, Option}
use Rattle.std.specs.Str.{all_ascii_digits}
use Rattle.formats.specs.Words.{is_letter, is_digit, is_numeral, value}

abbrev pub most_digits : ℕ
most_digits = 9

abbrev pub is_word : ℕ → Bool
is_word b = is_letter b || is_digit b

abbrev pub digits_of : List ℕ → Option ℕ
digits_of f = cond (all_ascii_digits f) (Some (value f)) None

abbrev pub number_of : ℕ → List ℕ → Option ℕ
number_of d f = cond (is_numeral d f) (Some (value f)) None
