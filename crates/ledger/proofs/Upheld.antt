-- The promise, carried from any calls on to more of them.
use Rattle.std.proofs.Common.{◌≡◌, ℕ, ◌+◌, ◌<◌, List, [], ◌∷◌, ◌++◌, length, take, get_or, refl, sym, ap, ap₂, ◌∙◌, subst}
use Rattle.std.proofs.lemmas.List.{take_more, map_push}
use Rattle.model.specs.Plant.{Answer}
use Rattle.model.specs.Layer.{Pile, InForce, Built}
use Rattle.model.specs.Ledger.{Ledger, Call, new_ledger, answer, next, run, answers}
use Rattle.model.specs.Book.{book_of, acceptances}
use Rattle.model.specs.Promise.{Upheld}
use Rattle.model.proofs.Running.{promise}
use Rattle.ledger.specs.declared.call.Call as calling
use Rattle.ledger.specs.Calls.{call_of, calls_of, Promised}

-- a list and then another is one list
pub run_append : (l : Ledger) (cs ds : List Call) → run l (cs ++ ds) ≡ run (run l cs) ds
run_append l [] ds = refl
run_append l (c ∷ cs) ds = run_append (next l c) cs ds

pub promise_after : (l after : Ledger) (cs : List Call) → after ≡ run l cs → (p : Pile) (rs : List InForce) (before : List Call) → Built p rs
    → l ≡ run (new_ledger p) before → Promised p rs (before ++ cs) after
promise_after l after cs e p rs before built b =
    let reached : after ≡ run (new_ledger p) (before ++ cs) = e ∙ ap (λ x. run x cs) b ∙ sym (run_append (new_ledger p) before cs) in
    record {
      reached = reached;
      upheld = subst (λ (x : Ledger). Upheld x (book_of p rs (before ++ cs) (acceptances (answers (new_ledger p) (before ++ cs))))) (sym reached) (promise p rs built (before ++ cs));
    }

-- the promise, of a ledger that has just been opened
pub promise_new : (p : Pile) (l : Ledger) → l ≡ new_ledger p → (rs : List InForce) → Built p rs → (cs : List Call) → Promised p rs cs (run l cs)
promise_new p l e rs built cs = record {
  reached = ap (λ x. run x cs) e;
  upheld = subst (λ (x : Ledger). Upheld (run x cs) (book_of p rs cs (acceptances (answers (new_ledger p) cs)))) (sym e) (promise p rs built cs);
}

-- one call, by the value that it is
pub made : (l after : Ledger) (k m : Call) → k ≡ m → after ≡ next l m → after ≡ next l k
made l after k m e a = a ∙ ap (next l) (sym e)

pub promise_made : (l after : Ledger) (k m : Call) → k ≡ m → after ≡ next l m → (p : Pile) (rs : List InForce) (before : List Call) → Built p rs
    → l ≡ run (new_ledger p) before → Promised p rs (before ++ (k ∷ [])) after
promise_made l after k m e a = promise_after l after (k ∷ []) (made l after k m e a)

-- ---- one call more of a list
pub run_more : (l was after : Ledger) (cs : List Call) (c : Call) → was ≡ run l cs → after ≡ next was c → after ≡ run l (cs ++ (c ∷ []))
run_more l was after cs c e a = a ∙ ap (λ x. next x c) e ∙ sym (run_append l cs (c ∷ []))

pub answers_append : (l : Ledger) (cs ds : List Call) → answers l (cs ++ ds) ≡ answers l cs ++ answers (run l cs) ds
answers_append l [] ds = refl
answers_append l (c ∷ cs) ds = ap (λ x. answer l c ∷ x) (answers_append (next l c) cs ds)

pub answers_more : (l was : Ledger) (xs : List Answer) (cs : List Call) (c : Call) (a : Answer) → was ≡ run l cs → xs ≡ answers l cs → a ≡ answer was c
    → xs ++ (a ∷ []) ≡ answers l (cs ++ (c ∷ []))
answers_more l was xs cs c a e x q = ap₂ (λ ys b. ys ++ (b ∷ [])) x (q ∙ ap (λ y. answer y c) e) ∙ sym (answers_append l cs (c ∷ []))

-- the calls that the first i + 1 values stand for
pub calls_more : (xs : List calling.Call) (i : ℕ) (d : calling.Call) → i < length xs → calls_of (take (i + 1) xs) ≡ calls_of (take i xs) ++ (call_of (get_or xs i d) ∷ [])
calls_more xs i d l = ap calls_of (take_more xs i d l) ∙ map_push call_of (take i xs) (get_or xs i d)
