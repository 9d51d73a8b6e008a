-- The samples, computed.
use Rattle.std.proofs.Common.{refl}
use Rattle.formats.specs.Texts.{read_text}
use Rattle.formats.specs.Sums.{read_sum}
use Rattle.formats.specs.Samples.{NetSamples, RulesSamples}

pub net_samples : NetSamples
unfolding read_text
net_samples = record {
  cell = refl;
  small = refl;
  no_place = refl;
  no_move = refl;
  late_place = refl;
  over = refl;
  zero_lead = refl;
  in_line = refl;
  again = refl;
  twice = refl;
  bare = refl;
  blank = refl;
  byte = refl;
}

pub rules_samples : RulesSamples
unfolding read_text read_sum
rules_samples = record {
  two = refl;
  sum_read = refl;
  sum_weighs = (refl, refl, refl);
  long = refl;
  hundred = refl;
  hundred_bare = refl;
  zero_lead = refl;
  no_star = refl;
  empty = refl;
  sign_alone = refl;
  ends_in_plus = refl;
  number_alone = refl;
  ends_in_star = refl;
  plus_first = refl;
  two_signs = refl;
  star_late = refl;
  heavy = refl;
  a_move = refl;
  a_rule = refl;
  taken = refl;
  minus_zero = refl;
  long_bound = refl;
  second_line = refl;
  no_fixed = refl;
}
