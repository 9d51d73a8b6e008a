-- What the three questions answer.
use Rattle.std.proofs.Common.{◌≡◌, ℕ, ◌+◌, ◌<◌, ◌≤◌, Bool, true, false, ltb, Some, None, Ok, Option, sym, refl, ap, ◌∙◌, arith}
use Rattle.std.proofs.lemmas.Bool.{lt-ltb, ltb-true, ltb-false}
use Rattle.model.specs.declared.refusal.Refusal.{Refusal}
use Rattle.model.specs.Net.{Net}
use Rattle.model.specs.Plant.{Answer, fault_of, fault_at, refuse_at, refuse_unless, ◌else_by◌, known, short_place, over_place, begin_answer}
use Rattle.model.specs.declared.refusal.Refusal.TheVariants.{NoMove, Short, OverLimit}
use Rattle.plant.proofs.Lowest.{none_passes}

-- the move is there: the next check answers
pub asked : (n : Net) (t : ℕ) (a : Answer) → t < n.moves → (known n t else_by a) ≡ a
asked n t a l = ap (λ (b : Bool). refuse_unless b (fault_of NoMove t) else_by a) (lt-ltb t n.moves l)

-- no such place
pub passed : (n : Net) (why : Refusal) (t : ℕ) (o : Option ℕ) → t < n.moves → o ≡ None → Ok tt ≡ (known n t else_by refuse_at (fault_at n why t) o)
passed n why t o lt none = sym (asked n t (refuse_at (fault_at n why t) o) lt ∙ ap (refuse_at (fault_at n why t)) none)

-- ---- a call that is accepted
accepts : (n : Net) (why : Refusal) (t : ℕ) (o : Option ℕ) → Ok tt ≡ (known n t else_by refuse_at (fault_at n why t) o) → (t < n.moves) × (o ≡ None)
accepts n why t o e = go (ltb t n.moves) refl o e
  where
    go : (b : Bool) → ltb t n.moves ≡ b → (q : Option ℕ) → Ok tt ≡ (refuse_unless b (fault_of NoMove t) else_by refuse_at (fault_at n why t) q) → (t < n.moves) × (q ≡ None)
    go true h None r = (ltb-true t n.moves h, refl)
    go true h (Some p) r = let z : ◌≡◌ {A = ℕ} 0 1 = cc in absurd (omega arith)
    go false h q r = let z : ◌≡◌ {A = ℕ} 0 1 = cc in absurd (omega arith)

-- begin: no place is short
pub begins : (n : Net) (free : ℕ → ℕ) (t : ℕ) → Ok tt ≡ begin_answer n free t → (t < n.moves) × ((p : ℕ) → p < n.places → n.take p t ≤ free p)
begins n free t e =
    let a = accepts n Short t (short_place n free t) e in
    (a.0, λ p l. ltb-false (free p) (n.take p t) (none_passes (λ q. ltb (free q) (n.take q t)) 0 n.places a.1 p (omega arith) (omega arith)))

-- finish and back: no place goes over its limit by what is added
pub fits : (n : Net) (free more : ℕ → ℕ) (t : ℕ) → Ok tt ≡ (known n t else_by refuse_at (fault_at n OverLimit t) (over_place n free more)) → (t < n.moves) × ((p : ℕ) → p < n.places → free p + more p ≤ n.limit p)
fits n free more t e =
    let a = accepts n OverLimit t (over_place n free more) e in
    (a.0, λ p l. ltb-false (n.limit p) (free p + more p) (none_passes (λ q. ltb (n.limit q) (free q + more q)) 0 n.places a.1 p (omega arith) (omega arith)))

-- a move that is not refused as missing is there
pub known_in : (n : Net) (t : ℕ) → Ok tt ≡ known n t → t < n.moves
known_in n t e = go (ltb t n.moves) refl e
  where
    go : (b : Bool) → ltb t n.moves ≡ b → Ok tt ≡ refuse_unless b (fault_of NoMove t) → t < n.moves
    go true h r = ltb-true t n.moves h
    go false h r = let z : ◌≡◌ {A = ℕ} 0 1 = cc in absurd (omega arith)
