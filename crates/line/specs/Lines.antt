-- The buffer line: places in a row. Each move but the first takes one from the place before it, each but the last gives one to the place after it.
--   line_net         the net of a line of k places, with what is said of their limits and of the moves' letters; all else is 0
--   net_of           the net of a line
--   tokens_of        the tokens at each place of a line
use Rattle.std.specs.Prelude.{ℕ, ◌+◌, Bool, false, cond, ◌&&◌, ◌==◌, nat_lt, slice_index_or}
use Rattle.model.specs.Net.{Net}
use Rattle.line.specs.declared.line.Line.{Line}
use Rattle.line.specs.Slots.{slot}

abbrev pub line_net : ℕ → (ℕ → ℕ) → (ℕ → Bool) → Net
line_net k limits letters = record {
  ground_places = k;
  places = k;
  moves = k + 1;
  controllable = λ t. nat_lt t (k + 1) && letters t;
  -- the place p comes after the move p, which gives to it, and before the move p + 1, which takes from it
  take = λ p t. cond (nat_lt p k && p + 1 == t) 1 0;
  give = λ p t. cond (nat_lt p k && p == t) 1 0;
  limit = λ p. cond (nat_lt p k) (limits p) 0;
  layer = λ p. 0;
  row = λ p. 0;
}

abbrev pub net_of : Line → Net
net_of s = line_net s.count (λ p. (slot s.slots p).limit) (λ t. slice_index_or s.controllable t false)

abbrev pub tokens_of : Line → ℕ → ℕ
tokens_of s p = cond (nat_lt p s.count) (slot s.slots p).tokens 0
