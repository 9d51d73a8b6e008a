-- What the answers of working mean, said without its steps: chains of rounds.
--   CanBeTyped        a rule that can be typed: small weights, on ground places only, and a small bound
--   Small        a rule that working may hand on: its weights and its bound are not too large
--   Gcd          h is the greatest common divisor of a and e
--   LowestRising       the lowest uncontrollable move that raises the rule
--   Round        one round, from a rule to the next
--   Chain        so many rounds one after the other, each to a rule that is small
--   Quiet        no uncontrollable move raises the rule
--   WorkedOut    the rule is worked after at most the rounds there may be, and it tells how many they were
--   EndlessOf, StuckOf, LargeOf   why there is no worked rule: 22, 20, 21
--   RoundsSay    what an answer means, when so many rounds may change the rule
--   WorkSays     what an answer of working means
use Rattle.std.specs.Prelude.{◌≡◌, ℕ, suc, ◌+◌, ◌*◌, ◌/◌, ◌<◌, ◌≤◌, false, ◌⊎◌, pos, ◌+ℤ◌, ◌-ℤ◌, ◌*ℤ◌, ◌≤ℤ◌, Ok, Err, Result, ◌≢◌, unsigned_abs}
use Rattle.std.specs.Int.{◌∣◌}
use Rattle.model.specs.declared.refusal.Refusal.TheVariants.{NotTyped, NotAbsorbed, TooLarge, TooManyRounds}
use Rattle.model.specs.declared.fault.Fault.{Fault}
use Rattle.model.specs.Sizes.{most_all_places, most_weight, most_bound, most_worked_weight, most_worked_bound, most_rounds}
use Rattle.model.specs.Net.{Net}
use Rattle.model.specs.Plant.{setting_fault}
use Rattle.model.specs.Rule.{Rule, Worked, raise}
use Rattle.model.specs.Working.{unchanged}

pub record CanBeTyped (n : Net) (r : Rule) : Type 0 where
  pub weights : (p : ℕ) → p < n.ground_places → unsigned_abs (r.weight p) ≤ most_weight
  pub elsewhere : (p : ℕ) → n.ground_places ≤ p → p < most_all_places → r.weight p ≡ pos 0
  pub bound_in : unsigned_abs r.bound ≤ most_bound

pub record Small (n : Net) (w : Worked) : Type 0 where
  pub weights : (p : ℕ) → p < n.ground_places → unsigned_abs (w.weight p) ≤ most_worked_weight
  pub bound_in : unsigned_abs w.bound ≤ most_worked_bound

pub record Gcd (a e h : ℕ) : Type 0 where
  pub some : 1 ≤ h
  pub of_a : h * (a / h) ≡ a
  pub of_e : h * (e / h) ≡ e
  pub most : (d : ℕ) → d ∣ a → d ∣ e → d ≤ h

-- the move has the raise a, above 0
pub record LowestRising (n : Net) (w : Worked) (t a : ℕ) : Type 0 where
  pub known : t < n.moves
  pub uncontrollable : n.controllable t ≡ false
  pub raises : raise n w.weight t ≡ pos a
  pub some : 1 ≤ a
  pub lowest_one : (u : ℕ) → u < t → n.controllable u ≡ false → raise n w.weight u ≤ℤ pos 0

pub record Round (n : Net) (r s : Worked) : Type 0 where
  pub move : ℕ
  pub place : ℕ
  pub a : ℕ
  pub e : ℕ
  pub h : ℕ
  pub rising : LowestRising n r move a
  -- the lowest ground place of which it takes more than it gives, by e
  pub place_in : place < n.ground_places
  pub takes : n.give place move + e ≡ n.take place move
  pub e_some : 1 ≤ e
  pub place_lowest : (i : ℕ) → i < place → n.take i move ≤ n.give i move
  pub gcd : Gcd a e h
  -- the new rule
  pub at_place : s.weight place ≡ pos (e / h) *ℤ r.weight place +ℤ pos (a / h)
  pub elsewhere : (i : ℕ) → (i ≢ place) → s.weight i ≡ pos (e / h) *ℤ r.weight i
  pub bound : s.bound ≡ pos (e / h) *ℤ (r.bound +ℤ pos 1) -ℤ pos 1
  pub counted : s.rounds ≡ suc r.rounds
  -- what it is for: the move raises the new rule by nothing
  pub levelled : raise n s.weight move ≡ pos 0

pub data Chain : Net → ℕ → Worked → Worked → Type 0 where
  none : (n : Net) (r : Worked) → Chain n 0 r r
  more : {n : Net} {k : ℕ} {r s w : Worked} → Round n r s → Small n s → Chain n k s w → Chain n (suc k) r w

abbrev pub Quiet : Net → Worked → Type 0
Quiet n w = (t : ℕ) → t < n.moves → n.controllable t ≡ false → raise n w.weight t ≤ℤ pos 0

-- from the rule r, when so many rounds may change it
pub record WorkedOut (n : Net) (most : ℕ) (r w : Worked) : Type 0 where
  pub count : ℕ
  pub few : count ≤ most
  pub counted : w.rounds ≡ r.rounds + count
  pub chain : Chain n count r w
  pub quiet : Quiet n w

-- all the rounds there may be have changed it, and a move still raises it
pub record EndlessOf (n : Net) (most : ℕ) (r : Worked) : Type 0 where
  pub last : Worked
  pub chain : Chain n most r last
  pub move : ℕ
  pub raised : ℕ
  pub rising : LowestRising n last move raised

-- from no ground place does the move take more than it gives
pub record StuckOf (n : Net) (most : ℕ) (r : Worked) : Type 0 where
  pub count : ℕ
  pub few : count < most
  pub last : Worked
  pub chain : Chain n count r last
  pub move : ℕ
  pub raised : ℕ
  pub rising : LowestRising n last move raised
  pub no_place : (p : ℕ) → p < n.ground_places → n.take p move ≤ n.give p move

-- the next round's rule is too large
pub record LargeOf (n : Net) (most : ℕ) (r : Worked) : Type 0 where
  pub count : ℕ
  pub few : count < most
  pub last : Worked
  pub chain : Chain n count r last
  pub big : Worked
  pub round : Round n last big
  pub not_small : Small n big → ⊥

abbrev pub RoundsSay : Net → ℕ → Worked → Result Worked Fault → Type 0
RoundsSay n most r (Ok w) = WorkedOut n most r w
RoundsSay n most r (Err f) =
    ((f ≡ setting_fault TooManyRounds) × EndlessOf n most r)
    ⊎ (((f ≡ setting_fault NotAbsorbed) × StuckOf n most r)
    ⊎ ((f ≡ setting_fault TooLarge) × LargeOf n most r))

abbrev pub WorkSays : Net → Rule → Result Worked Fault → Type 0
WorkSays n typed x =
    (CanBeTyped n typed × RoundsSay n most_rounds (unchanged typed) x)
    ⊎ ((CanBeTyped n typed → ⊥) × (x ≡ Err (setting_fault NotTyped)))
