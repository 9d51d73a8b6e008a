use Rattle.std.proofs.Common.{length, sym, ap, ◌∙◌, arith}
use Rattle.std.proofs.lemmas.Bool.{eqb-false}
use Rattle.texts.proofs.Walking.{next_line}
use Rattle.texts.proofs.walk.LinesIterator.next.Goals as goal

pub returns-clause-steps : goal.returns-clause-steps
returns-clause-steps c =
    let it = c.args.self.now in
    next_line it.at it.rest.now c.until.result c.min-past.result (omega (arith, c.until.ensures.value)) (c.until.ensures.within (omega arith)) (omega (arith, eqb-false (length it.rest.now) 0 (sym c.is_empty.ensures ∙ c.if-is_empty.false))) c.min-past.ensures

pub returns-clause-goes : goal.returns-clause-goes
returns-clause-goes c = record { on = λ _. (tt, tt, omega (arith, ap length (returns-clause-steps c))); keeps = tt; rests = λ _. tt }
