-- A bare plant is a pile of no layers: what moves in it moves in the pile, whose rows are blank and stay so.
use Rattle.std.proofs.Common.{◌≡◌, ℕ, ◌+◌, ◌-◌, Bool, true, false, cond, sym, refl, ap, ◌∙◌}
use Rattle.model.specs.Net.{Net}
use Rattle.model.specs.Plant.{Answer, accepted, begin_answer, finish_answer, back_answer, begun, finished, gone_back}
use Rattle.model.specs.Layer.{Row, plant, plant_alone, pile_begun, pile_finished, pile_gone_back, rows_begun, rows_finished, rows_gone_back}
use Rattle.model.proofs.Blank.{no_rows, blank_begun, blank_finished, blank_gone_back}

-- moved if the test holds, else as it was
alone_if : (n : Net) (free moved : ℕ → ℕ) (rows : ℕ → Row) → rows ≡ no_rows → (b : Bool) → (b ≡ false → moved ≡ free) →
    plant_alone n moved ≡ cond b (record { top = plant; below = n; below_free = moved; rows = rows }) (plant_alone n free)
alone_if n free moved rows blanks true still = λ i. record { top = plant; below = n; below_free = moved; rows = sym blanks i }
alone_if n free moved rows blanks false still = ap (plant_alone n) (still refl)

-- after a call of the plant of net n and tokens free it has the net m and the tokens after, and the call answered r
module _ (n m : Net) (free after : ℕ → ℕ) (t : ℕ) (r : Answer) (same : m ≡ n) where
  moved_to : (moved : ℕ → ℕ) (rows : ℕ → Row) (a : Answer) → rows ≡ no_rows → r ≡ a → after ≡ moved → (accepted a ≡ false → moved ≡ free) →
      plant_alone m after ≡ cond (accepted r) (record { top = plant; below = n; below_free = moved; rows = rows }) (plant_alone n free)
  moved_to moved rows a blanks e q still =
      (λ i. plant_alone (same i) (q i)) ∙ alone_if n free moved rows blanks (accepted a) still
      ∙ ap (λ (x : Answer). cond (accepted x) (record { top = plant; below = n; below_free = moved; rows = rows }) (plant_alone n free)) (sym e)

  pub alone_begun : r ≡ begin_answer n free t → after ≡ begun n free t → plant_alone m after ≡ cond (accepted r) (pile_begun (plant_alone n free) t) (plant_alone n free)
  alone_begun e q =
      moved_to (begun n free t) (rows_begun n no_rows t) (begin_answer n free t) (blank_begun n no_rows t (λ r. refl)) e q
      (λ f. λ i p. cond (f i) (free p - n.take p t) (free p))

  pub alone_finished : r ≡ finish_answer n free t → after ≡ finished n free t → plant_alone m after ≡ cond (accepted r) (pile_finished (plant_alone n free) t) (plant_alone n free)
  alone_finished e q =
      moved_to (finished n free t) (rows_finished n no_rows t) (finish_answer n free t) (blank_finished n no_rows t (λ r. refl)) e q
      (λ f. λ i p. cond (f i) (free p + n.give p t) (free p))

  pub alone_gone_back : r ≡ back_answer n free t → after ≡ gone_back n free t → plant_alone m after ≡ cond (accepted r) (pile_gone_back (plant_alone n free) t) (plant_alone n free)
  alone_gone_back e q =
      moved_to (gone_back n free t) (rows_gone_back n no_rows t) (back_answer n free t) (blank_gone_back n no_rows t (λ r. refl)) e q
      (λ f. λ i p. cond (f i) (free p + n.take p t) (free p))
