-- Checks in order, some at a time.
use Rattle.std.proofs.Common.{◌≡◌, ℕ, Bool, true, false, cond, List, [], ◌∷◌, ◌++◌, IsErrAnd, Some, Ok, Err, Option, Result, sym, refl, ap, ◌∙◌, arith}
use Rattle.formats.specs.declared.fault.TextFault.{TextFault}
use Rattle.std.proofs.lemmas.Result.{err_from_is_err_and}
use Rattle.formats.specs.Texts.{Check, first_failed, unless}
use Rattle.texts.specs.Spans.{checked}

-- the first checks fail: so do all
pub stops : {A B : Type 0} (cs rest : List Check) (k : ℕ) (v : A) (x : Result B TextFault) (f : TextFault) → Err f ≡ unless (first_failed cs) k (Ok v) → Err f ≡ unless (first_failed (cs ++ rest)) k x
stops [] rest k v x f e = let z : ◌≡◌ {A = ℕ} 0 1 = cc in absurd (omega arith)
stops {A} {B} (c ∷ cs) rest k v x f e = go c.passes e (λ q. stops cs rest k v x f q)
  where
    go : (b : Bool) → Err f ≡ unless (cond b (first_failed cs) (Some c)) k (Ok v) → (Err f ≡ unless (first_failed cs) k (Ok v) → Err f ≡ unless (first_failed (cs ++ rest)) k x) → Err f ≡ unless (cond b (first_failed (cs ++ rest)) (Some c)) k x
    go true q r = r q
    go false q r = cc

-- the first checks pass: the others are left
pub goes : {A : Type 0} (cs rest : List Check) (k : ℕ) (v w : A) → Ok w ≡ unless (first_failed cs) k (Ok v) → (w ≡ v) × (first_failed (cs ++ rest) ≡ first_failed rest)
goes [] rest k v w e = (cc, refl)
goes {A} (c ∷ cs) rest k v w e = go c.passes e (λ q. goes cs rest k v w q)
  where
    go : (b : Bool) → Ok w ≡ unless (cond b (first_failed cs) (Some c)) k (Ok v) → (Ok w ≡ unless (first_failed cs) k (Ok v) → (w ≡ v) × (first_failed (cs ++ rest) ≡ first_failed rest)) → (w ≡ v) × (cond b (first_failed (cs ++ rest)) (Some c) ≡ first_failed rest)
    go true q r = r q
    go false q r = let z : ◌≡◌ {A = ℕ} 0 1 = cc in absurd (omega arith)

-- the first checks pass, and one of the others fails
pub then_stops : {A B : Type 0} (cs rest : List Check) (k : ℕ) (v w : A) (x : Result B TextFault) (f : TextFault) → Ok w ≡ checked cs k v → Err f ≡ unless (first_failed rest) k x → Err f ≡ unless (first_failed (cs ++ rest)) k x
then_stops cs rest k v w x f ok e = e ∙ ap (λ (o : Option Check). unless o k x) (sym (goes cs rest k v w ok).1)

-- what the exit of a `?` returns, where the error is passed on as it is
pub passed_on : {T : Type 0} {f : TextFault} {x : Result T TextFault} (r : Result T TextFault) → IsErrAnd r (λ (e : TextFault). e ≡ f) → Err f ≡ x → r ≡ x
passed_on r h e = let p = err_from_is_err_and r h in p.1 ∙ ap Err p.2 ∙ e
