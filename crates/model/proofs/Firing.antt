-- The firing rule: when begin, finish and back are accepted, which place is named, and that they undo or add up.
use Rattle.std.proofs.Common.{◌≡◌, ℕ, ◌+◌, ◌<◌, false, ltb, Ok, ap, ◌∙◌, arith, ltb-true, le-ltb, lt-ltb}
use Rattle.std.proofs.lemmas.Bool.{false_from_ne_true}
use borrow.Author.Differences.{ints}
use Rattle.model.specs.declared.refusal.Refusal.{Refusal}
use Rattle.model.specs.declared.refusal.Refusal.TheVariants.{NoMove, Short, OverLimit}
use Rattle.model.specs.Net.{Net}
use Rattle.model.specs.Plant.{Answer, lowest, fault_of, fault_at, refuse_at, refuse_unless, ◌else_by◌, known, begin_answer, begun, back_answer}
use Rattle.model.specs.Laws.{FiringRule, BeginFires, FinishFires, BackFires, BeginBack, BeginFinish}
use Rattle.model.proofs.Checks.{lowest_is, accepts_none, ok_else, known_ok, known_says, else_ok, begin_says, back_ok, begun_is, finished_is, gone_back_is}

-- a place is in the way if it has less than it needs
fires : (n : Net) (t : ℕ) (why : Refusal) (has needs : ℕ → ℕ) → FiringRule n t (λ p. has p < needs p) why (known n t else_by refuse_at (fault_at n why t) (lowest (λ p. ltb (has p) (needs p)) 0 n.places))
fires n t why has needs = record {
  no_move = λ l. ap (λ b. refuse_unless b (fault_of NoMove t) else_by found) (le-ltb t n.moves l);
  passes = λ l h. ok_else (known n t) found (known_ok n t l) ∙ accepts_none (λ p. ltb (has p) (needs p)) n.places (fault_at n why t) (λ p k. clear p (h p k));
  refused = λ l p k e h. ok_else (known n t) found (known_ok n t l) ∙ ap (refuse_at (fault_at n why t)) (lowest_is (λ p. ltb (has p) (needs p)) n.places p k (lt-ltb (has p) (needs p) e) (λ j m. clear j (h j m)));
}
  where
    found : Answer
    found = refuse_at (fault_at n why t) (lowest (λ p. ltb (has p) (needs p)) 0 n.places)

    clear : (p : ℕ) → (has p < needs p → ⊥) → ltb (has p) (needs p) ≡ false
    clear p h = false_from_ne_true (ltb (has p) (needs p)) (λ e. h (ltb-true (has p) (needs p) e))

pub begin_fires : BeginFires
begin_fires n free t = fires n t Short free (λ p. n.take p t)

pub finish_fires : FinishFires
finish_fires n free t = fires n t OverLimit n.limit (λ p. free p + n.give p t)

pub back_fires : BackFires
back_fires n free t = fires n t OverLimit n.limit (λ p. free p + n.take p t)

began : (n : Net) (free : ℕ → ℕ) (t : ℕ) → begin_answer n free t ≡ Ok tt → t < n.moves
began n free t e = known_says n t (else_ok (known n t) (refuse_at (fault_at n Short t) (lowest (λ p. ltb (free p) (n.take p t)) 0 n.places)) e).0

pub begin_back : BeginBack
begin_back n free t fits e = (accepted_back, λ p l. gone_back_is n (begun n free t) t accepted_back p ∙ there p l)
  where
    there : (p : ℕ) → p < n.places → begun n free t p + n.take p t ≡ free p
    there p l = omega (arith, begun_is n free t e p, begin_says n free t (began n free t e) e p l)

    accepted_back : back_answer n (begun n free t) t ≡ Ok tt
    accepted_back = back_ok n (begun n free t) t (began n free t e) (λ p l. omega (arith, there p l, fits p l))

pub begin_finish : BeginFinish
begin_finish n free t e k p l = omega (arith, ints, finished_is n (begun n free t) t k p, begun_is n free t e p, begin_says n free t (began n free t e) e p l)
