use Rattle.std.proofs.Common.{◌≡◌, Ok, ◌∙◌, ap, if◌then◌else◌}
use Rattle.model.specs.Plant.{Answer, accepted}
use Rattle.model.specs.Layer.{pile_finished}
use Rattle.model.specs.Ledger.{report}
use Rattle.ledger.specs.Ledgers.{ledger_of}
use Rattle.ledger.specs.Values.{value_of}
use Rattle.ledger.proofs.Asked.{report_finishes, next_done}
use Rattle.ledger.proofs.ledger.Ledger.report.Goals as goal

pub returns-clause-answer : goal.returns-clause-answer
returns-clause-answer g c =
    let s = g.met.P.Plant.stacked c.args.self.now.pile in
    c.finish.ensures.answer
    ∙ report_finishes (g.P.Plant.pile c.args.self.now.pile) (g.P.Net.net c.args.self.now.pile) (g.P.Plant.tokens c.args.self.now.pile) c.args.self.now.grants c.args.t s.0 s.1 _ _ c.begin.ensures.same c.begin.ensures.after c.in_ok-may_report.ensures
    ∙ c.in_ok-may_report.ensures

pub returns-clause-after : goal.returns-clause-after
returns-clause-after g c =
    let s = g.met.P.Plant.stacked c.args.self.now.pile in
    let e : c.finish.result ≡ Ok tt = c.finish.ensures.answer
    ∙ report_finishes (g.P.Plant.pile c.args.self.now.pile) (g.P.Net.net c.args.self.now.pile) (g.P.Plant.tokens c.args.self.now.pile) c.args.self.now.grants c.args.t s.0 s.1 _ _ c.begin.ensures.same c.begin.ensures.after c.in_ok-may_report.ensures in
    ap (λ p. ledger_of p c.args.self.now.grants)
    (c.finish.ensures.whole
    ∙ ap (λ (a : Answer). if accepted a then pile_finished (g.P.Plant.pile c.begin.new.self) c.args.t else g.P.Plant.pile c.begin.new.self) e
    ∙ ap (λ p. pile_finished p c.args.t) c.in_ok-begin.ensures.whole)
    ∙ next_done (value_of c.args.self.now) (report c.args.t) c.in_ok-may_report.ensures
