use Rattle.std.proofs.Common.{◌≡◌, ◌^◌, ◌<◌, drop}
use Rattle.std.specs.Str.{all_ascii_digits}
use Rattle.formats.specs.Words.{value_after, value}
use Rattle.texts.proofs.words.digits_value.Given as goal

abbrev pub invariant-loop-b : goal.invariant-loop-b
invariant-loop-b l =
    (value_after l.value (drop l.b-index l.field) ≡ value l.field)
    × (all_ascii_digits (drop l.b-index l.field) ≡ all_ascii_digits l.field)
    × (l.value < 10 ^ l.b-index)
