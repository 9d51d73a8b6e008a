-- The marked cases as one list: a sum that is read, and what the model has of rules, settings and calls.
--   Seen             what came of a step: a sum's weights of the places it names, or an outcome of the model
--   Case             what came, and what must
--   sum_seen         a sum that was read, by the weights of so many places, or its refusal and byte
--   sum_weighs       what reading a sum over places of these names comes to
--   seen_of          a case of the model, as one of this list
--   marked_cases     the list
--   AsMarked         each case of a list came out as it must
--   line_of_two      the net of a buffer line of two places with limits 1, all moves controllable
--   OnALine          the net that the list's cases of a line are about is that one
use Rattle.std.specs.Prelude.{◌≡◌, ℕ, true, List, [], ◌∷◌, map, length, ℤ, pos, Ok, Err, Result, codes}
use Rattle.model.specs.Refusals.{refusal_number}
use Rattle.model.specs.Net.{Net}
use Rattle.model.specs.Cases as model
use Rattle.line.specs.Lines.{line_net}
use Rattle.formats.specs.Texts.{Check}
use Rattle.formats.specs.Sums.{Part, weight, read_sum}

pub data Seen : Type 0 where
  weights : List ℤ → Seen
  refused_at : ℕ → ℕ → Seen
  outcome : model.Outcome → Seen

pub record Case : Type 0 where
  pub came : List Seen
  pub must : List Seen

abbrev pub sum_seen : ℕ → Result (List Part) Check → Seen
sum_seen k (Ok qs) = weights (model.weights_from (weight qs) 0 k)
sum_seen k (Err c) = refused_at (refusal_number c.refusal) c.byte

-- the sum stands at byte 0 of its text
abbrev pub sum_weighs : List (List ℕ) → List ℕ → List Seen
sum_weighs names sum = sum_seen (length names) (read_sum names 0 sum) ∷ []

abbrev pub seen_of : model.Case → Case
seen_of c = record { came = map outcome c.came; must = map outcome c.must }

abbrev pub marked_cases : List Case
marked_cases =
    -- A+2*B-A weighs A 0 and B 2
    record { came = sum_weighs (codes "A" ∷ codes "B" ∷ []) (codes "A+2*B-A"); must = weights (pos 0 ∷ pos 2 ∷ []) ∷ [] }
    ∷ map seen_of model.marked_cases

abbrev pub AsMarked : List Case → Type 0
AsMarked [] = Unit {0}
AsMarked (c ∷ cs) = (c.came ≡ c.must) × AsMarked cs

abbrev pub line_of_two : Net
line_of_two = line_net 2 (λ p. 1) (λ t. true)

abbrev pub OnALine : Type 0
OnALine = model.line ≡ line_of_two
