-- One move of the search for a round: whether it raises the rule, and what is found where it does.
use Rattle.std.proofs.Common.{◌≡◌, ℕ, Bool, true, false, not, ℤ, pos, Some, Option, sym, ap, ◌∙◌, w32, SFits, to_z, of_z}
use lib.Signed.{lt_z}
use Rattle.std.proofs.lemmas.Int.{to_z-of_z}
use Rattle.std.proofs.lemmas.Bool.{and_from, and_left, and_right, not_from_true, not_from_false}
use Rattle.model.specs.Net.{Net}
use Rattle.model.specs.Plant.{lowest}
use Rattle.model.specs.Rule.{Worked, raise}
use Rattle.model.specs.Working.{rising, falls}
use Rattle.rules.specs.Searching.{rising_at}

module _ (n : Net) (w : Worked) (t : ℕ) (c : Bool) (told : c ≡ n.controllable t) where
  pub held : c ≡ true → rising n w t ≡ false
  held e = and_left (not (n.controllable t)) (lt_z (pos 0) (raise n w.weight t)) (not_from_true (n.controllable t) (sym told ∙ e))

  -- what the code read as the raise
  module _ (r : ℤ) (fits : SFits w32 r) (is : r ≡ raise n w.weight t) where
    read : (b : Bool) → lt_z (pos 0) (to_z w32 (of_z w32 r)) ≡ b → lt_z (pos 0) (raise n w.weight t) ≡ b
    read b e = sym (ap (λ z. lt_z (pos 0) z) (to_z-of_z w32 r fits ∙ is)) ∙ e

    pub rises : c ≡ false → lt_z (pos 0) (to_z w32 (of_z w32 r)) ≡ true → rising n w t ≡ true
    rises e k = and_from (not (n.controllable t)) (lt_z (pos 0) (raise n w.weight t)) (not_from_false (n.controllable t) (sym told ∙ e)) (read true k)

    pub stays : lt_z (pos 0) (to_z w32 (of_z w32 r)) ≡ false → rising n w t ≡ false
    stays k = and_right (not (n.controllable t)) (lt_z (pos 0) (raise n w.weight t)) (read false k)

pub found : (n : Net) (w : Worked) (t : ℕ) (o : Option ℕ) → lowest (rising n w) 0 n.moves ≡ Some t → lowest (falls n t) 0 n.ground_places ≡ o
    → Some (record { transition = t; absorber = o }) ≡ rising_at n (lowest (rising n w) 0 n.moves)
found n w t o e k = (λ i. Some (record { transition = t; absorber = sym k i })) ∙ sym (ap (rising_at n) e)
