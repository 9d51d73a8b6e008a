use Rattle.std.proofs.Common.{◌≡◌, Ok, Err, sym, ◌∙◌}
use Rattle.std.proofs.lemmas.Result.{err_from_is_err_and}
use Rattle.rules.specs.Rules.{rule_of, worked_of}
use Rattle.model.proofs.Checks.{refuse_unless_ok}
use Rattle.rules.proofs.Testing.{refused_unless}
use Rattle.rules.proofs.Progress.{works, refused_first, progress_first, some_place, no_place, none_left, one_left, worked_now, stuck_now, round_due, large_now, round_on, endless_now}
use Rattle.rules.proofs.work.work.Goals as goal

pub returns-in_err-rule : goal.returns-in_err-rule
returns-in_err-rule g c =
    let n = g.N.Net.net c.args.net.now in
    let typed = rule_of c.args.typed.now in
    let f = c.in_err-rule.field-0.0 in
    let p = err_from_is_err_and {Q = λ y. y ≡ f} c.from_residual.result c.from_residual.ensures.1 in
    rw (p.1, p.2) (works n typed (Err f) (refused_first n typed f c.in_err-rule.ensures.answer))

pub rounds-init : goal.rounds-init
rounds-init g c =
    let n = g.N.Net.net c.args.net.now in
    let typed = rule_of c.args.typed.now in
    progress_first n typed (worked_of c.in_ok-rule.rule) c.in_ok-rule.ensures.answer c.in_ok-rule.ensures.by_ground

pub returns-in_default : goal.returns-in_default
returns-in_default g c =
    let n = g.N.Net.net c.args.net.now in
    let typed = rule_of c.args.typed.now in
    let w = worked_of c.rounds.rule in
    works n typed (Ok w) (worked_now n typed w c.rounds.counter c.rounds.invariant c.in_default.ensures)

pub returns-in_err-place : goal.returns-in_err-place
returns-in_err-place g c =
    let n = g.N.Net.net c.args.net.now in
    let typed = rule_of c.args.typed.now in
    let w = worked_of c.rounds.rule in
    let f = c.in_err-place.field-0.0 in
    let p = err_from_is_err_and {Q = λ y. y ≡ f} c.from_residual-in_err-place.result c.from_residual-in_err-place.ensures.1 in
    let k = no_place c.in-Some.rising.absorber c.of_setting.result f c.in_err-place.ensures.value in
    rw (p.1, p.2)
    (works n typed (Err f) (stuck_now n typed w c.rounds.counter c.rounds.invariant c.rounds-test.true c.in-Some.rising c.in-Some.ensures f k.0 (k.1 ∙ c.of_setting.ensures)))

pub after_round-requires : goal.after_round-requires
after_round-requires g c =
    let n = g.N.Net.net c.args.net.now in
    let typed = rule_of c.args.typed.now in
    let w = worked_of c.rounds.rule in
    round_due n typed w c.rounds.counter c.rounds.invariant c.rounds-test.true c.in-Some.rising c.in-Some.ensures c.in_ok-place.place
    (some_place c.in-Some.rising.absorber c.of_setting.result c.in_ok-place.place c.in_ok-place.ensures.value)

pub returns-in_err-rule-2 : goal.returns-in_err-rule-2
returns-in_err-rule-2 g c =
    let n = g.N.Net.net c.args.net.now in
    let typed = rule_of c.args.typed.now in
    let w = worked_of c.rounds.rule in
    let f = c.in_err-rule-2.field-0.0 in
    let p = err_from_is_err_and {Q = λ y. y ≡ f} c.from_residual-in_err-rule-2.result c.from_residual-in_err-rule-2.ensures.1 in
    rw (p.1, p.2)
    (works n typed (Err f) (large_now n typed w c.rounds.counter c.rounds.invariant c.rounds-test.true c.in-Some.rising c.in-Some.ensures c.in_ok-place.place
    (some_place c.in-Some.rising.absorber c.of_setting.result c.in_ok-place.place c.in_ok-place.ensures.value) f c.in_err-rule-2.ensures))

pub rounds-preserved : goal.rounds-preserved
rounds-preserved g c =
    let n = g.N.Net.net c.args.net.now in
    let typed = rule_of c.args.typed.now in
    let w = worked_of c.rounds.rule in
    round_on n typed w c.rounds.counter c.rounds.invariant c.rounds-test.true c.in-Some.rising c.in-Some.ensures c.in_ok-place.place
    (some_place c.in-Some.rising.absorber c.of_setting.result c.in_ok-place.place c.in_ok-place.ensures.value) (worked_of c.in_ok-rule-2.rule) c.in_ok-rule-2.ensures

pub returns-in_err-unless : goal.returns-in_err-unless
returns-in_err-unless g c =
    let n = g.N.Net.net c.args.net.now in
    let typed = rule_of c.args.typed.now in
    let w = worked_of c.rounds.rule in
    let f = c.in_err-unless.field-0.0 in
    let p = err_from_is_err_and {Q = λ y. y ≡ f} c.from_residual-in_err-unless.result c.from_residual-in_err-unless.ensures.1 in
    let k = refused_unless c.is_none.result c.of_setting-2.result f c.in_err-unless.ensures in
    let r = one_left c.rising-2.result c.is_none.result c.is_none.ensures k.0 in
    rw (p.1, p.2)
    (works n typed (Err f) (endless_now n typed w c.rounds.counter c.rounds.invariant c.rounds-test.false r.0 f (sym r.1 ∙ c.rising-2.ensures) (k.1 ∙ c.of_setting-2.ensures)))

pub returns : goal.returns
returns g c =
    let n = g.N.Net.net c.args.net.now in
    let typed = rule_of c.args.typed.now in
    let w = worked_of c.rounds.rule in
    works n typed (Ok w) (worked_now n typed w c.rounds.counter c.rounds.invariant
    (sym (none_left c.rising-2.result c.is_none.result c.is_none.ensures (refuse_unless_ok _ _ (sym c.in_ok-unless.ensures))) ∙ c.rising-2.ensures))
