-- What a round of working does to a rule.
--   Change          what a round multiplies every weight by, and what it then adds to the weight of the place
--   absorption_of   the round for the move t and the place p, by what it multiplies by and adds
--   before_rounds   the typed rule before its first round, or 25 where it cannot be typed
--   after_round     the rule after it, or 21 where it is too large
--   Modest          the numbers of a round are small
--   OnGround        the rule, where there is one, weighs no place beyond the ground places
--   RoundAt         a round is due: for the lowest move that raises the rule and the lowest place that can absorb it
use Rattle.std.specs.Prelude.{◌≡◌, ℕ, ◌-◌, ◌*◌, ◌/◌, ◌<◌, ◌≤◌, cond, ℤ, pos, Some, Ok, Err, Result, unsigned_abs}
use Rattle.model.specs.declared.refusal.Refusal.TheVariants.{NotTyped}
use Rattle.model.specs.declared.fault.Fault.{Fault}
use Rattle.model.specs.Sizes.{most_places, most_arc, most_limit, most_rounds, most_worked_weight}
use Rattle.model.specs.Net.{Net}
use Rattle.model.specs.Plant.{lowest, setting_fault}
use Rattle.model.specs.Rule.{Rule, Worked, raise, positive}
use Rattle.model.specs.Working.{divisor, rising, falls, at_place, is_typed, unchanged}

pub record Change : Type 0 where
  pub place : ℕ
  pub factor : ℤ
  pub addend : ℤ

abbrev pub absorption_of : Net → Worked → ℕ → ℕ → Change
absorption_of n w t p =
    let a = positive (raise n w.weight t) in
    let e = n.take p t - n.give p t in
    record { place = p; factor = pos (e / divisor e a e); addend = pos (a / divisor e a e) }

abbrev pub before_rounds : Net → Rule → Result Worked Fault
before_rounds n r = cond (is_typed n r) (Ok (unchanged r)) (Err (setting_fault NotTyped))

abbrev pub after_round : Net → Worked → ℕ → ℕ → Result Worked Fault
after_round n w t p = at_place Ok n w t (Some p)

pub record Modest (x : Change) : Type 0 where
  pub place_in : x.place < most_places
  pub factor_small : unsigned_abs x.factor ≤ most_arc
  pub addend_small : unsigned_abs x.addend ≤ most_places * (most_worked_weight * most_limit)

abbrev pub OnGround : Net → Result Worked Fault → Type 0
OnGround n (Ok w) = (q : ℕ) → n.ground_places ≤ q → w.weight q ≡ pos 0
OnGround n (Err f) = Unit {0}

pub record RoundAt (n : Net) (w : Worked) (t p : ℕ) : Type 0 where
  pub move_is : lowest (rising n w) 0 n.moves ≡ Some t
  pub place_is : lowest (falls n t) 0 n.ground_places ≡ Some p
  pub on_ground : OnGround n (Ok w)
  pub rounds_left : w.rounds < most_rounds
