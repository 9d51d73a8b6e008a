-- The net of a machine bank: machines of four places each, and as many moves as places.
--   bit          the bit p of the word w
--   letter       whether the bit t of the word of letters is set
--   next_place   the place that the move t gives to: the next of its machine, and after the last the first
--   arc          1 where p is the place q and both p and the move t are there, of n; else 0
--   bank_net     the net of n places, with the controllable moves c
--   net_of       the net of a bank
--   tokens_of    the tokens at each place of a bank
use Rattle.std.specs.Prelude.{ℕ, ◌+◌, ◌*◌, ◌/◌, ◌%◌, ◌^◌, Bool, cond, ◌&&◌, ◌==◌, nat_lt}
use Rattle.model.specs.Net.{Net}
use Rattle.bank.specs.declared.bank.Bank.{Bank}

abbrev pub bit : ℕ → ℕ → ℕ
bit w p = w / 2 ^ p % 2

abbrev pub letter : ℕ → ℕ → Bool
letter w t = bit w t == 1

abbrev pub next_place : ℕ → ℕ
next_place t = 4 * (t / 4) + (t % 4 + 1) % 4

abbrev pub arc : ℕ → ℕ → ℕ → ℕ → ℕ
arc n p t q = cond (nat_lt p n && (nat_lt t n && p == q)) 1 0

abbrev pub bank_net : ℕ → (ℕ → Bool) → Net
bank_net n c = record {
  ground_places = n;
  places = n;
  moves = n;
  controllable = λ t. nat_lt t n && c t;
  take = λ p t. arc n p t t;
  give = λ p t. arc n p t (next_place t);
  limit = λ p. cond (nat_lt p n) 1 0;
  layer = λ _. 0;
  row = λ _. 0;
}

abbrev pub net_of : Bank → Net
net_of b = bank_net b.count (letter b.letters)

abbrev pub tokens_of : Bank → ℕ → ℕ
tokens_of b = bit b.tokens
