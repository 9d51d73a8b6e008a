use Rattle.std.proofs.Common.{◌≡◌, ℕ, ◌≤◌, List, ◌++◌, length, vec_items, Result, sym, ap, ◌∙◌, subst, arith}
use Rattle.std.specs.Prelude.{OnOk}
use Rattle.model.specs.Sizes.{most_places}
use Rattle.formats.specs.declared.fault.TextFault.{TextFault}
use Rattle.formats.specs.NetText.{NetText}
use Rattle.formats.specs.RulesText.{RulesText}
use Rattle.panel.specs.Cells.{Cell, cell_of}
use Rattle.panel.specs.Orders.{Started, ran}
use Rattle.panel.specs.Run.{by_rules}
use Rattle.panel.proofs.Started.{on_ok, only_one}
use Rattle.panel.proofs.Same.{cell_same}
use Rattle.panel.proofs.run.run_rules.Goals as goal

pub returns-in-Ok-clause-printed : goal.returns-in-Ok-clause-printed
returns-in-Ok-clause-printed c =
    let x : NetText = c.args.net.now in
    let few : length x.places ≤ most_places = omega (arith, c.requires.right.few_places) in
    let read = c.in-Ok.ensures.answer few in
    subst (λ (z : List ℕ). OnOk c.run_net.result (vec_items c.run_net.new.out ≡ vec_items c.args.out.now ++ z))
    (ap (λ (k : Cell). ran k c.args.orders.now) (cell_same x c.args.text.now c.in-Ok.rules read.0 read.2)
    ∙ sym (ap (λ (r : Result RulesText TextFault). by_rules x r c.args.orders.now) read.1))
    c.run_net.ensures.printed

pub returns-in-Ok-clause-built : goal.returns-in-Ok-clause-built
returns-in-Ok-clause-built c =
    let x : NetText = c.args.net.now in
    let few : length x.places ≤ most_places = omega (arith, c.requires.right.few_places) in
    let read = c.in-Ok.ensures.answer few in
    on_ok c.run_net.result _
    (λ y e.
    let same : read.0 ≡ y = only_one (sym read.1 ∙ e) in
    subst (λ (k : Cell). Started k c.args.orders.now) (cell_same x c.args.text.now c.in-Ok.rules read.0 read.2 ∙ ap (cell_of x) same) c.run_net.ensures.built)
