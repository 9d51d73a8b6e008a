-- Working a rule, round by round: each round changes the rule so that one uncontrollable move no longer raises it.
--   ground_only  whether a rule weighs ground places only
--   is_typed     whether a rule is one that can be typed: small weights, on ground places only, and a small bound
--   divisor      the greatest number from 1 to k that divides a and e
--   rising       whether a move is uncontrollable and raises the rule
--   falls        whether the move takes more of the place than it gives
--   absorbed     the rule after a round, by the numbers of the round
--   changed      the rule after a round, for the move t and the place p
--   fits         whether a round's rule is small enough
--   at_move, at_place   what a round does with the move and the place that were found; at_end: when no round is left
--   rounds_from  working on from a rule, when so many rounds may still change it
--   unchanged    a typed rule before its first round
--   work         what working a typed rule answers: the worked rule, or 25, 20, 21 or 22
use Rattle.std.specs.Prelude.{ℕ, zero, suc, ◌-◌, ◌/◌, ◌%◌, Bool, cond, not, ◌&&◌, ◌||◌, pos, ◌+ℤ◌, ◌-ℤ◌, ◌*ℤ◌, Some, None, Ok, Err, Option, Result, ◌==◌, int_lt, nat_lt, unsigned_abs}
use Rattle.model.specs.declared.refusal.Refusal.TheVariants.{NotTyped, NotAbsorbed, TooLarge, TooManyRounds}
use Rattle.model.specs.declared.fault.Fault.{Fault}
use Rattle.model.specs.Sizes.{most_all_places, most_weight, most_bound, most_worked_weight, most_worked_bound, most_rounds}
use Rattle.model.specs.Net.{Net}
use Rattle.model.specs.Plant.{lowest, setting_fault}
use Rattle.model.specs.Rule.{Rule, Worked, raise, positive, in_range, all_below}

-- no net has a place from most_all_places on
abbrev pub ground_only : Net → Rule → Bool
ground_only n r = all_below (λ p. nat_lt p n.ground_places || unsigned_abs (r.weight p) == 0) most_all_places

abbrev pub is_typed : Net → Rule → Bool
is_typed n r = in_range most_weight most_bound n r.weight r.bound && ground_only n r

abbrev pub divisor : ℕ → ℕ → ℕ → ℕ
divisor zero a e = 1
divisor (suc k) a e = cond (a % suc k == 0 && e % suc k == 0) (suc k) (divisor k a e)

abbrev pub rising : Net → Worked → ℕ → Bool
rising n w t = not (n.controllable t) && int_lt (pos 0) (raise n w.weight t)

abbrev pub falls : Net → ℕ → ℕ → Bool
falls n t p = nat_lt (n.give p t) (n.take p t)

-- a is the move's raise, e what it takes of the place beyond what it gives, h their greatest common divisor
abbrev pub absorbed : Worked → ℕ → (h a e : ℕ) → Worked
absorbed w p h a e = record {
  weight = λ i. pos (e / h) *ℤ w.weight i +ℤ cond (i == p) (pos (a / h)) (pos 0);
  bound = pos (e / h) *ℤ (w.bound +ℤ pos 1) -ℤ pos 1;
  rounds = suc w.rounds;
}

abbrev pub changed : Net → Worked → ℕ → ℕ → Worked
changed n w t p =
    let a = positive (raise n w.weight t) in
    let e = n.take p t - n.give p t in
    absorbed w p (divisor e a e) a e

abbrev pub fits : Net → Worked → Bool
fits n w = in_range most_worked_weight most_worked_bound n w.weight w.bound

module _ (on : Worked → Result Worked Fault) (n : Net) (w : Worked) where
  abbrev pub at_place : ℕ → Option ℕ → Result Worked Fault
  at_place t (Some p) = cond (fits n (changed n w t p)) (on (changed n w t p)) (Err (setting_fault TooLarge))
  at_place t None = Err (setting_fault NotAbsorbed)

  abbrev pub at_move : Option ℕ → Result Worked Fault
  at_move (Some t) = at_place t (lowest (falls n t) 0 n.ground_places)
  at_move None = Ok w

abbrev pub at_end : Worked → Option ℕ → Result Worked Fault
at_end w (Some t) = Err (setting_fault TooManyRounds)
at_end w None = Ok w

unfoldable pub rounds_from : ℕ → Net → Worked → Result Worked Fault
rounds_from zero n w = at_end w (lowest (rising n w) 0 n.moves)
rounds_from (suc k) n w = at_move (rounds_from k n) n w (lowest (rising n w) 0 n.moves)

abbrev pub unchanged : Rule → Worked
unchanged r = record { weight = r.weight; bound = r.bound; rounds = 0 }

abbrev pub work : Net → Rule → Result Worked Fault
work n r = cond (is_typed n r) (rounds_from most_rounds n (unchanged r)) (Err (setting_fault NotTyped))
