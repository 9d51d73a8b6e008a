use Rattle.std.proofs.Common.{◌≡◌, ◌+◌, ◌<◌, List, [], ◌∷◌, ◌++◌, length, take, get_or, sym, ap, ◌∙◌, arith}
use Rattle.std.proofs.lemmas.List.{take_all}
use Rattle.model.specs.Ledger.{Ledger, Call, run, answers}
use Rattle.ledger.specs.declared.call.Call.TheVariants.{Grant}
use Rattle.ledger.specs.Values.{value_of}
use Rattle.ledger.specs.Calls.{call_of, calls_of}
use Rattle.ledger.proofs.Upheld.{run_more, answers_more, calls_more, promise_after}
use Rattle.ledger.proofs.run.Ledger+Board+P.run.Goals as goal

pub calls-preserved : goal.calls-preserved
calls-preserved g c =
    let l : Ledger = value_of c.args.self.now in
    let was : Ledger = value_of c.calls.self in
    let here : c.calls.call-index < length c.args.calls.now = omega arith in
    let done : List Call = calls_of (take c.calls.call-index c.args.calls.now) in
    let call : Call = call_of (get_or c.args.calls.now c.calls.call-index (Grant 0)) in
    let more : calls_of (take (c.calls.call-index + 1) c.args.calls.now) ≡ done ++ (call ∷ []) = calls_more c.args.calls.now c.calls.call-index (Grant 0) here in
    record {
      room = omega (arith, c.push_reserved.ensures.capacity, c.calls.invariant.room);
      count = omega (arith, c.push_reserved.ensures.len, c.calls.invariant.count);
      reached = run_more l was _ done call c.calls.invariant.reached c.make.ensures.after ∙ ap (run l) (sym more);
      answered = c.push_reserved.ensures.items ∙ answers_more l was _ done call _ c.calls.invariant.reached c.calls.invariant.answered c.make.ensures.answer ∙ ap (answers l) (sym more);
    }

pub returns-clause-promise : goal.returns-clause-promise
returns-clause-promise g c =
    let l : Ledger = value_of c.args.self.now in
    promise_after l _ (calls_of c.args.calls.now) (c.calls.invariant.reached ∙ ap (λ cs. run l (calls_of cs)) (take_all c.calls.call-index c.args.calls.now (omega arith)))
