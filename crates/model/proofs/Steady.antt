-- What stays true of a ledger and its book: the invariant.
use Rattle.std.proofs.Common.{◌≡◌, ℕ, ◌+◌, ◌*◌, ◌<◌, ◌≤◌, true, false, ◌⊎◌, List, ℤ, pos, ◌+ℤ◌, Ok}
use mathlib.Core.List.{Memᴰ}
use Rattle.model.specs.Net.{Net, Ranges, sum}
use Rattle.model.specs.Sizes.{most_open}
use Rattle.model.specs.Rule.{weighted, raise, positive, negative}
use Rattle.model.specs.Layer.{InForce, Pile, pile_net, row_count, is_shut, row_place}
use Rattle.model.specs.Ledger.{taken, reserved}
use Rattle.model.specs.Working.{work}
use Rattle.model.specs.Laws.{Derived, BlankPlace, Ruled}
use Rattle.model.proofs.Working.{work_derives}

-- what open grants hold of a rule
abbrev pub held_open : Net → (ℕ → ℕ) → (ℕ → ℤ) → ℕ
held_open n g w = sum n.moves (λ t. g t * positive (raise n w t))

pub record Stands (n : Net) (free g : ℕ → ℕ) (q : ℕ → ℤ) (r : InForce) : Type 0 where
  pub low : n.ground_places ≤ r.place
  pub high : r.place < n.places
  pub takes : (t : ℕ) → n.take r.place t ≡ positive (raise n r.worked.weight t)
  pub gives : (t : ℕ) → n.give r.place t ≡ negative (raise n r.worked.weight t)
  pub adds_up : (weighted n r.worked.weight q +ℤ pos (free r.place)) +ℤ pos (held_open n g r.worked.weight) ≡ r.worked.bound
  pub working : work n r.typed ≡ Ok r.worked

pub stands_derived : (n : Net) (free g : ℕ → ℕ) (q : ℕ → ℤ) (r : InForce) → Stands n free g q r → Derived n.ground_places r.typed r.worked
stands_derived n free g q r k = work_derives n r.typed r.worked k.working

pub record Steady (n : Net) (free g : ℕ → ℕ) (q : ℕ → ℤ) (rs : List InForce) : Type 0 where
  pub ranges : Ranges n
  pub roomy : (p : ℕ) → p < n.places → free p + reserved n g p ≤ n.limit p
  pub few : sum n.moves g ≤ most_open
  pub beyond : (t : ℕ) → n.moves ≤ t → g t ≡ 0
  pub marked : (p : ℕ) → p < n.ground_places → q p ≡ pos (free p + taken n g p)
  pub rules : (r : InForce) → Memᴰ r rs → Stands n free g q r
  pub control : (c : ℕ) → n.ground_places ≤ c → BlankPlace n free c ⊎ Ruled rs c

-- how rows stand in the top layer
pub record Shape (p : Pile) (rs : List InForce) : Type 0 where
  pub based : Ranges p.below
  pub there : (r : ℕ) → r < row_count p.top → is_shut (row_count p.top) p.below ≡ false → ((pile_net p).ground_places ≤ p.below.places) × (row_place p r < (pile_net p).places)
  pub settled : (i : InForce) → Memᴰ i rs → (i.place < p.below.places) ⊎ ((k : ℕ) × (i.place ≡ row_place p k) × ((p.rows k).in_use ≡ true))
