-- The print of order lines follows the run of their calls.
use Rattle.std.proofs.Common.{◌≡◌, ℕ, List, [], ◌∷◌, ◌++◌, sym, refl, ap, ◌∙◌, append_assoc}
use Rattle.model.specs.Ledger.{Ledger, Call, run}
use Rattle.formats.specs.Words.{fields}
use Rattle.panel.specs.Cells.{Cell}
use Rattle.panel.specs.Orders.{Order, order_of, obeyed, next_ledger, answers, calls_in, calls_of}
use Rattle.panel.specs.Orders.Order.{a_call, a_show, no_shape, no_name}

run_in : (o : Order) (l : Ledger) (cs : List Call) → run l (calls_in o ++ cs) ≡ run (next_ledger l o) cs
run_in (a_call k) l cs = refl
run_in (a_show p) l cs = refl
run_in no_shape l cs = refl
run_in no_name l cs = refl

pub follows : (c : Cell) (l : Ledger) (xs ys : List (List ℕ)) → answers c l (xs ++ ys) ≡ answers c l xs ++ answers c (run l (calls_of c xs)) ys
follows c l [] ys = refl
follows c l (x ∷ xs) ys =
    let o = order_of c (fields x) in
    ap (λ (z : List ℕ). obeyed c l o ++ z) (follows c (next_ledger l o) xs ys)
    ∙ sym (append_assoc (obeyed c l o) (answers c (next_ledger l o) xs) (answers c (run (next_ledger l o) (calls_of c xs)) ys))
    ∙ ap (λ (m : Ledger). (obeyed c l o ++ answers c (next_ledger l o) xs) ++ answers c m ys) (sym (run_in o l (calls_of c xs)))
