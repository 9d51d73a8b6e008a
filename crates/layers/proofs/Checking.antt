-- What the checks of a setting come to, once the layer is not shut and the row has no rule.
use Rattle.std.proofs.Common.{◌≡◌, ℕ, Bool, true, false, not, ℤ, pos, ◌-ℤ◌, Ok, Err, Result, sym, refl, ap, ◌∙◌, ap₂, arith}
use lib.Signed.{le_z}
use Rattle.std.proofs.lemmas.Int.{ints}
use Rattle.model.specs.declared.refusal.Refusal.TheVariants.{Shut, RowInUse, Broken}
use Rattle.model.specs.declared.fault.Fault.{Fault}
use Rattle.model.specs.Plant.{Answer, refuse_unless, setting_fault, ◌else_by◌}
use Rattle.model.specs.Rule.{Rule, Worked, weighted_free}
use Rattle.model.specs.Working.{work}
use Rattle.model.specs.Layer.{Pile, row_count, is_shut, holds_now, top_answer}
use Rattle.layers.specs.Setting.{Checks}

-- something is spare exactly where the sum is within the bound
spare_within : (b x : ℤ) → le_z (pos 0) (b -ℤ x) ≡ le_z x b
spare_within b x = go (le_z x b) refl
  where
    go : (t : Bool) → le_z x b ≡ t → le_z (pos 0) (b -ℤ x) ≡ t
    go true e = grind (arith, ints)
    go false e = grind (arith, ints)

-- what a check that passed says: the test that it is the opposite of failed
pub passed : (b s : Bool) (f : Fault) → Ok tt ≡ refuse_unless (not b) f → b ≡ s → s ≡ false
passed false s f ok e = sym e
passed true s f ok e = let z : ◌≡◌ {A = ℕ} 0 1 = cc in absurd (omega arith)

module _ (p : Pile) (r : ℕ) (typed : Rule) (clear : is_shut (row_count p.top) p.below ≡ false) (unused : (p.rows r).in_use ≡ false) where
  settled : (a : Result Worked Fault) → a ≡ work p.below typed → holds_now p.below p.below_free a ≡ top_answer p r typed
  settled a e =
      ap (holds_now p.below p.below_free) e
      ∙ sym (ap₂ (λ (s u : Bool). refuse_unless (not s) (setting_fault Shut) else_by refuse_unless (not u) (setting_fault RowInUse) else_by holds_now p.below p.below_free (work p.below typed)) clear unused)

  module _ (w : Worked) (e : Ok w ≡ work p.below typed) (spare : ℤ) (is : spare ≡ w.bound -ℤ weighted_free p.below w.weight p.below_free) (f : Fault) (told : f ≡ setting_fault Broken) where
    judged : (a : Answer) → a ≡ refuse_unless (le_z (pos 0) spare) f → a ≡ top_answer p r typed
    judged a h =
        h ∙ ap₂ refuse_unless (ap (le_z (pos 0)) is ∙ spare_within w.bound (weighted_free p.below w.weight p.below_free)) told ∙ settled (Ok w) e

    pub broken : (g : Fault) → Err g ≡ refuse_unless (le_z (pos 0) spare) f → Checks p r typed (Err g)
    broken g h = record { answer = judged (Err g) h; works = λ v k. let z : ◌≡◌ {A = ℕ} 0 1 = cc in absurd (omega arith) }

    pub holds : Ok tt ≡ refuse_unless (le_z (pos 0) spare) f → Checks p r typed (Ok w)
    holds h = record { answer = judged (Ok tt) h; works = λ v k. sym e ∙ k }
