use Rattle.std.proofs.Common.{◌≡◌, refl, sym, ap, ◌∙◌, subst}
use Rattle.model.specs.Sizes.{monitor_rows}
use Rattle.model.specs.Layer.{Pile, board, pile_net, pile_free, monitor_answer}
use Rattle.rules.specs.Rules.{rule_of}
use Rattle.layers.specs.Piles.{monitor_pile, stack_pile, new_pile}
use Rattle.layers.specs.Rows.{rows_of}
use Rattle.layers.specs.Setting.{SetTo}
use Rattle.layers.specs.Shut.{same_net, same_free}
use Rattle.layers.proofs.Stacking.{stacked}
use Rattle.layers.proofs.pile.build.Goals as goal

pub returns-clause-pile : goal.returns-clause-pile
returns-clause-pile g c =
    let typed = rule_of c.args.fixed.now in
    let new = c.new-monitor.ensures.fresh.pile in
    let set = c.in_ok-set.ensures in
    let ok = set.answer ∙ ap (λ (p : Pile). monitor_answer p typed) new in
    let m = c.set.new.self in
    let after = monitor_pile g.P.Net.net g.P.Plant.tokens m in
    let n = g.P.Net.net m.below in
    let over : _ ≡ new_pile board (pile_net after) (pile_free after) = c.new.ensures.fresh.pile
    ∙ (λ i. new_pile board (sym (same_net monitor_rows n (rows_of m.rows.rows)) i) (sym (same_free monitor_rows n (rows_of m.rows.rows) (g.P.Plant.tokens m.below)) i)) in
    stacked (g.P.Net.net c.args.plant) (g.P.Plant.tokens c.args.plant) typed (g.met.P.Net.sound c.args.plant) (g.met.P.Plant.within c.args.plant) after
    (stack_pile g.P.Net.net g.P.Plant.tokens c.new.result) ok (subst (λ (p : Pile). SetTo p after 0 typed) new (set.set refl)) over
