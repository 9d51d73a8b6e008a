-- What an answer says: the lowest place that passes a test, and each check's Ok.
use Rattle.std.proofs.Common.{◌≡◌, ℕ, zero, suc, ◌+◌, ◌-◌, ◌<◌, ◌≤◌, Bool, true, false, cond, ltb, ◌⊎◌, Some, None, Ok, Err, Option, sym, refl, ap, ◌∙◌, subst, ap₂, inl, inr, zero-le, arith, ltb-false, ltb-true, le-ltb, lt-ltb}
use Rattle.std.proofs.lemmas.Bool.{both_ways, cases_eq, cases_order}
use Rattle.std.proofs.lemmas.Option.{none-some}
use Rattle.model.specs.declared.refusal.Refusal.TheVariants.{NoMove, Uncontrollable, Controllable, TooManyOpen, Short, NoRoom, OverLimit}
use Rattle.model.specs.declared.fault.Fault.{Fault}
use Rattle.model.specs.Sizes.{most_open}
use Rattle.model.specs.Net.{Net}
use Rattle.model.specs.Plant.{Answer, accepted, lowest, fault_of, fault_at, refuse_at, refuse_unless, ◌else_by◌, known, short_place, over_place, begin_answer, begun, finish_answer, finished, back_answer, gone_back}
use Rattle.model.specs.Ledger.{open_count, grant_checks}
use Rattle.model.specs.Promise.{RefusedAt}

-- ---- lowest
abbrev pub Tells : (ℕ → Bool) → ℕ → ℕ → Option ℕ → Type 0
Tells f i n (Some p) = (f p ≡ true) × (i ≤ p) × (p < i + n) × ((j : ℕ) → i ≤ j → j < p → f j ≡ false)
Tells f i n None = (j : ℕ) → i ≤ j → j < i + n → f j ≡ false

from_here : (f : ℕ → Bool) (i j : ℕ) → f i ≡ false → i ≤ j → (suc i ≤ j → f j ≡ false) → f j ≡ false
from_here f i j e h k = grind (arith, cases_eq i j)

tells_later : (f : ℕ → Bool) (i n : ℕ) (o : Option ℕ) → f i ≡ false → Tells f (suc i) n o → Tells f i (suc n) o
tells_later f i n (Some p) e h = (h.0, omega (arith, h.1), omega (arith, h.2), λ j a b. from_here f i j e a (λ c. h.3 j c b))
tells_later f i n None e h = λ j a b. from_here f i j e a (λ c. h j c (omega arith))

tells_step : (f : ℕ → Bool) (i n : ℕ) (b : Bool) → f i ≡ b → Tells f (suc i) n (lowest f (suc i) n) → Tells f i (suc n) (cond b (Some i) (lowest f (suc i) n))
tells_step f i n true e h = (e, omega arith, omega arith, λ j a b. absurd (omega arith))
tells_step f i n false e h = tells_later f i n (lowest f (suc i) n) e h

pub lowest_tells : (f : ℕ → Bool) (i n : ℕ) → Tells f i n (lowest f i n)
lowest_tells f i zero = λ j a b. absurd (omega arith)
lowest_tells f i (suc n) = tells_step f i n (f i) refl (lowest_tells f (suc i) n)

pub lowest_some : (f : ℕ → Bool) (n p : ℕ) → lowest f 0 n ≡ Some p → (f p ≡ true) × (p < n) × ((j : ℕ) → j < p → f j ≡ false)
lowest_some f n p e =
    let h : Tells f 0 n (Some p) = subst (λ (o : Option ℕ). Tells f 0 n o) e (lowest_tells f 0 n) in
    (h.0, omega (arith, h.2), λ j k. h.3 j zero-le k)

pub lowest_none : (f : ℕ → Bool) (n : ℕ) → lowest f 0 n ≡ None → (j : ℕ) → j < n → f j ≡ false
lowest_none f n e j k =
    let h : Tells f 0 n None = subst (λ (o : Option ℕ). Tells f 0 n o) e (lowest_tells f 0 n) in
    h j zero-le (omega arith)

-- where some place passes, one is found; where none does, none is
pub lowest_all_fail : (f : ℕ → Bool) (n : ℕ) → ((j : ℕ) → j < n → f j ≡ false) → lowest f 0 n ≡ None
lowest_all_fail f n h = go (lowest f 0 n) refl
  where
    go : (o : Option ℕ) → lowest f 0 n ≡ o → lowest f 0 n ≡ None
    go (Some p) e = let k = lowest_some f n p e in absurd (both_ways (f p) (h p k.1) k.0)
    go None e = e

pub lowest_passes : (f : ℕ → Bool) (n j : ℕ) → j < n → f j ≡ true → (c : ℕ) × (lowest f 0 n ≡ Some c)
lowest_passes f n j l t = go (lowest f 0 n) refl
  where
    go : (o : Option ℕ) → lowest f 0 n ≡ o → (c : ℕ) × (lowest f 0 n ≡ Some c)
    go (Some p) e = (p, e)
    go None e = absurd (both_ways (f j) (lowest_none f n e j l) t)

-- the lowest is the one that passes with none below it
pub lowest_is : (f : ℕ → Bool) (n p : ℕ) → p < n → f p ≡ true → ((j : ℕ) → j < p → f j ≡ false) → lowest f 0 n ≡ Some p
lowest_is f n p l e h = go (lowest f 0 n) refl
  where
    go : (o : Option ℕ) → lowest f 0 n ≡ o → lowest f 0 n ≡ Some p
    go None k = absurd (both_ways (f p) (lowest_none f n k p l) e)
    go (Some c) k =
        let s = lowest_some f n c k in
        let q : c ≡ p = elim (cases_order c p) [
          | inl q ↦ q
          | inr (inl q) ↦ absurd (both_ways (f c) (h c q) s.0)
          | inr (inr q) ↦ absurd (both_ways (f p) (s.2 p q) e)
        ] in
        k ∙ ap Some q

pub lowest_ext : (f g : ℕ → Bool) (i n : ℕ) → ((j : ℕ) → i ≤ j → j < i + n → f j ≡ g j) → lowest f i n ≡ lowest g i n
lowest_ext f g i zero h = refl
lowest_ext f g i (suc n) h = ap₂ (λ (b : Bool) (o : Option ℕ). cond b (Some i) o) (h i (omega arith) (omega arith)) (lowest_ext f g (suc i) n (λ j a b. h j (omega arith) (omega arith)))

-- ---- answers
pub err_not_ok : (f : Fault) → ◌≡◌ {A = Answer} (Err f) (Ok tt) → ⊥
err_not_ok f e = grind arith

pub else_ok : (a b : Answer) → (a else_by b) ≡ Ok tt → (a ≡ Ok tt) × (b ≡ Ok tt)
else_ok (Ok u) b e = (refl, e)
else_ok (Err f) b e = absurd (err_not_ok f e)

pub ok_else : (a b : Answer) → a ≡ Ok tt → (a else_by b) ≡ b
ok_else a b e = ap (λ x. x else_by b) e

pub refuse_unless_ok : (b : Bool) (f : Fault) → refuse_unless b f ≡ Ok tt → b ≡ true
refuse_unless_ok true f e = refl
refuse_unless_ok false f e = absurd (err_not_ok f e)

pub passes_if : (b : Bool) (f : Fault) → b ≡ true → refuse_unless b f ≡ Ok tt
passes_if b f e = ap (λ x. refuse_unless x f) e

pub refuse_at_ok : (g : ℕ → Fault) (o : Option ℕ) → refuse_at g o ≡ Ok tt → o ≡ None
refuse_at_ok g (Some p) e = absurd (err_not_ok (g p) e)
refuse_at_ok g None e = refl

pub accepts_none : (f : ℕ → Bool) (n : ℕ) (g : ℕ → Fault) → ((j : ℕ) → j < n → f j ≡ false) → refuse_at g (lowest f 0 n) ≡ Ok tt
accepts_none f n g h = ap (refuse_at g) (lowest_all_fail f n h)

-- ---- the answers of a plant
pub known_ok : (n : Net) (t : ℕ) → t < n.moves → known n t ≡ Ok tt
known_ok n t l = passes_if (ltb t n.moves) (fault_of NoMove t) (lt-ltb t n.moves l)

pub known_says : (n : Net) (t : ℕ) → known n t ≡ Ok tt → t < n.moves
known_says n t e = ltb-true t n.moves (refuse_unless_ok (ltb t n.moves) (fault_of NoMove t) e)

pub begin_is : (n : Net) (free : ℕ → ℕ) (t : ℕ) → t < n.moves → begin_answer n free t ≡ refuse_at (fault_at n Short t) (short_place n free t)
begin_is n free t l = ok_else (known n t) (refuse_at (fault_at n Short t) (short_place n free t)) (known_ok n t l)

pub begin_says : (n : Net) (free : ℕ → ℕ) (t : ℕ) → t < n.moves → begin_answer n free t ≡ Ok tt → (p : ℕ) → p < n.places → n.take p t ≤ free p
begin_says n free t l e p k = ltb-false (free p) (n.take p t) (lowest_none (λ i. ltb (free i) (n.take i t)) n.places (refuse_at_ok (fault_at n Short t) (short_place n free t) (sym (begin_is n free t l) ∙ e)) p k)

-- no place goes over its limit by what a move brings: finish by what it gives, back by what it takes
over_ok : (n : Net) (free : ℕ → ℕ) (t : ℕ) (more : ℕ → ℕ) → t < n.moves → ((p : ℕ) → p < n.places → free p + more p ≤ n.limit p) → (known n t else_by refuse_at (fault_at n OverLimit t) (over_place n free more)) ≡ Ok tt
over_ok n free t more l h = ok_else (known n t) (refuse_at (fault_at n OverLimit t) (over_place n free more)) (known_ok n t l)
    ∙ accepts_none (λ p. ltb (n.limit p) (free p + more p)) n.places (fault_at n OverLimit t) (λ p k. le-ltb (n.limit p) (free p + more p) (h p k))

pub finish_ok : (n : Net) (free : ℕ → ℕ) (t : ℕ) → t < n.moves → ((p : ℕ) → p < n.places → free p + n.give p t ≤ n.limit p) → finish_answer n free t ≡ Ok tt
finish_ok n free t l h = over_ok n free t (λ p. n.give p t) l h

pub back_ok : (n : Net) (free : ℕ → ℕ) (t : ℕ) → t < n.moves → ((p : ℕ) → p < n.places → free p + n.take p t ≤ n.limit p) → back_answer n free t ≡ Ok tt
back_ok n free t l h = over_ok n free t (λ p. n.take p t) l h

-- what a grant's first checks say
pub checks_say : (n : Net) (g : ℕ → ℕ) (t : ℕ) → grant_checks n g t ≡ Ok tt → (t < n.moves) × (n.controllable t ≡ true) × (open_count n g < most_open)
checks_say n g t e =
    let k = else_ok (known n t) (refuse_unless (n.controllable t) (fault_of Uncontrollable t) else_by refuse_unless (ltb (open_count n g) most_open) (fault_of TooManyOpen t)) e in
    let c = else_ok (refuse_unless (n.controllable t) (fault_of Uncontrollable t)) (refuse_unless (ltb (open_count n g) most_open) (fault_of TooManyOpen t)) k.1 in
    (known_says n t k.0, refuse_unless_ok (n.controllable t) (fault_of Uncontrollable t) c.0, ltb-true (open_count n g) most_open (refuse_unless_ok (ltb (open_count n g) most_open) (fault_of TooManyOpen t) c.1))

-- ---- the tokens after an accepted call
pub begun_is : (n : Net) (free : ℕ → ℕ) (t : ℕ) → begin_answer n free t ≡ Ok tt → (p : ℕ) → begun n free t p ≡ free p - n.take p t
begun_is n free t e p = ap (λ a. cond (accepted a) (free p - n.take p t) (free p)) e

pub finished_is : (n : Net) (free : ℕ → ℕ) (t : ℕ) → finish_answer n free t ≡ Ok tt → (p : ℕ) → finished n free t p ≡ free p + n.give p t
finished_is n free t e p = ap (λ a. cond (accepted a) (free p + n.give p t) (free p)) e

pub gone_back_is : (n : Net) (free : ℕ → ℕ) (t : ℕ) → back_answer n free t ≡ Ok tt → (p : ℕ) → gone_back n free t p ≡ free p + n.take p t
gone_back_is n free t e p = ap (λ a. cond (accepted a) (free p + n.take p t) (free p)) e

-- ---- which check named a place
pub names_cases : (n : Net) (t : ℕ) (a b : Option ℕ) (c : ℕ) → RefusedAt (refuse_at (fault_at n Short t) a else_by refuse_at (fault_at n NoRoom t) b) c → (a ≡ Some c) ⊎ (b ≡ Some c)
names_cases n t (Some p) b c h = inl h
names_cases n t None (Some p) c h = inr h
names_cases n t None None c h = absurd (none-some c h)

pub names_report : (t : ℕ) (a b : Bool) (x : Answer) (c : ℕ) → RefusedAt (refuse_unless a (fault_of NoMove t) else_by refuse_unless b (fault_of Controllable t) else_by x) c → (a ≡ true) × (b ≡ true) × RefusedAt x c
names_report t true true x c h = (refl, refl, h)
names_report t true false x c h = absurd (none-some c h)
names_report t false b x c h = absurd (none-some c h)
