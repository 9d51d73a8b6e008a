use Rattle.std.proofs.Common.{◌≡◌, ℕ, List, ◌++◌, vec_items, subst}
use Rattle.std.specs.Prelude.{OnOk}
use Rattle.layers.specs.Piles.{stack_pile}
use Rattle.rules.specs.Rules.{rule_of}
use Rattle.model.proofs.Checks.{err_not_ok}
use Rattle.panel.specs.Cells.{Cell}
use Rattle.panel.specs.Said.{cell_said}
use Rattle.panel.proofs.Started.{plant_bare, refused_set, built_cell, ran_unset, ran_set}
use Rattle.panel.proofs.run.run_made.Goals as goal

pub returns-in-Err-build-clause-printed : goal.returns-in-Err-build-clause-printed
returns-in-Err-build-clause-printed g c =
    let x : Cell = cell_said c.args.said.now in
    let stands = rw c.in-Some.is at c.requires in
    subst (λ (z : List ℕ). OnOk c.put_bad_fixed.result (vec_items c.put_bad_fixed.new.out ≡ vec_items c.args.out.now ++ z))
    (ran_unset x (g.P.Net.net c.in-Some.plant) (g.P.Plant.tokens c.in-Some.plant) (rule_of c.typed.result) stands.0 stands.1 c.typed.ensures c.args.orders.now c.in_default-check_text.ensures c.in-Err-build.fault c.in-Err-build.ensures.answer)
    c.put_bad_fixed.ensures

pub returns-in-Ok-clause-printed : goal.returns-in-Ok-clause-printed
returns-in-Ok-clause-printed g c =
    let x : Cell = cell_said c.args.said.now in
    let stands = rw c.in-Some.is at c.requires in
    subst (λ (z : List ℕ). OnOk c.obey_all.result (vec_items c.obey_all.new.out ≡ vec_items c.args.out.now ++ z))
    (ran_set x (g.P.Net.net c.in-Some.plant) (g.P.Plant.tokens c.in-Some.plant) (rule_of c.typed.result) stands.0 stands.1 c.typed.ensures c.args.orders.now c.in_default-check_text.ensures c.in-Ok.ensures.answer
    (stack_pile g.P.Net.net g.P.Plant.tokens c.in-Ok.pile) _ c.new-ledger.ensures.new c.in-Ok.ensures.pile)
    c.obey_all.ensures

pub returns-in-Err-build-clause-built : goal.returns-in-Err-build-clause-built
returns-in-Err-build-clause-built g c = λ checked set.
    let x : Cell = cell_said c.args.said.now in
    let stands = rw c.in-Some.is at c.requires in
    absurd (err_not_ok c.in-Err-build.fault (refused_set x (g.P.Net.net c.in-Some.plant) (g.P.Plant.tokens c.in-Some.plant) (rule_of c.typed.result) stands.0 stands.1 c.typed.ensures c.in-Err-build.fault c.in-Err-build.ensures.answer set))

pub returns-in-Ok-clause-built : goal.returns-in-Ok-clause-built
returns-in-Ok-clause-built g c = λ checked set.
    let x : Cell = cell_said c.args.said.now in
    let stands = rw c.in-Some.is at c.requires in
    built_cell x (g.P.Net.net c.in-Some.plant) (g.P.Plant.tokens c.in-Some.plant) (rule_of c.typed.result) stands.0 stands.1 c.typed.ensures
    (stack_pile g.P.Net.net g.P.Plant.tokens c.in-Ok.pile) c.in-Ok.ensures.pile (plant_bare c.args.said.now.net.now)
