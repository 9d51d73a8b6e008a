use Rattle.std.proofs.Common.{◌≡◌, ℕ, List, ◌++◌, Result, Ok, vec_items, codes, sym, ap, ◌∙◌, subst}
use Rattle.formats.specs.declared.fault.TextFault.{TextFault}
use Rattle.formats.specs.NetText.{NetText, names, place_names}
use Rattle.formats.specs.RulesText.{read_rules}
use Rattle.formats.proofs.NetLaws.{net_exact}
use Rattle.formats.proofs.RulesLaws.{rules_exact}
use Rattle.net_text.specs.Nets.{net_of}
use Rattle.panel.specs.Cells.{cell_of}
use Rattle.panel.specs.Orders.{Started}
use Rattle.panel.specs.Prints.{bad_line}
use Rattle.panel.specs.Run.{by_rules, by_net}
use Rattle.panel.specs.Bad.{BadPrinted}
use Rattle.panel.proofs.Bad.{texts_ran, bad_printed}
use Rattle.panel.proofs.Started.{only_one, answered}
use Rattle.panel.proofs.run.panel.Goals as goal
use Rattle.panel.proofs.run.panel.Goals.{in-Ok+in_ok-run_rules-in-Ok, in-Err+in_ok-put_stop-in-Err}

pub returns-clause-printed : goal.returns-clause-printed
returns-clause-printed c =
    let by = λ (r : Result NetText TextFault). by_net r c.args.rules.now c.args.orders.now in
    elim c.match-read_net.branch [
      | in-Ok+in_ok-run_rules-in-Ok k ↦
          let read : NetText = net_of c.args.net.now k.in-Ok.read in
          ap vec_items k.out-is
          ∙ k.in_ok-run_rules-in-Ok.ensures.printed
          ∙ ap (λ (o : List ℕ). o ++ by_rules read (read_rules (names read) (place_names read) c.args.rules.now) c.args.orders.now) c.new-out.ensures.items
          ∙ sym (ap by k.in-Ok.ensures.answer)
      | in-Err+in_ok-put_stop-in-Err k ↦
          let fault : TextFault = k.in_ok-put_stop-in-Err.ensures.0 in
          let refused = rw k.in_ok-put_stop-in-Err.ensures.1 at k.in-Err.ensures.answer in
          ap vec_items k.out-is
          ∙ k.in_ok-put_stop-in-Err.ensures.2
          ∙ ap (λ (o : List ℕ). o ++ bad_line (codes "net") fault) c.new-out.ensures.items
          ∙ sym (ap by refused)
    ]

pub returns-clause-proper : goal.returns-clause-proper
returns-clause-proper c = λ x y t. returns-clause-printed c ∙ texts_ran c.args.net.now c.args.rules.now c.args.orders.now x y t

pub returns-clause-built : goal.returns-clause-built
returns-clause-built c = λ x y t.
    answered (cell_of x y) c.args.orders.now _
    (elim c.match-read_net.branch [
      | in-Ok+in_ok-run_rules-in-Ok k ↦
          let read : NetText = net_of c.args.net.now k.in-Ok.read in
          let same : read ≡ x = only_one (sym k.in-Ok.ensures.answer ∙ (net_exact c.args.net.now x).1 t.net_proper t.net_written) in
          subst (λ (n : NetText). read_rules (names n) (place_names n) c.args.rules.now ≡ Ok y → Started (cell_of n y) c.args.orders.now) same
          (k.in_ok-run_rules-in-Ok.ensures.built y)
          ((rules_exact x t.net_proper.right c.args.rules.now y).1 t.rules_proper t.rules_written)
      | in-Err+in_ok-put_stop-in-Err k ↦
          let not_written = rw k.in_ok-put_stop-in-Err.ensures.1 at k.in-Err.ensures.accepted in
          absurd (not_written x t.net_proper t.net_written)
    ])
    (returns-clause-proper c x y t)

pub returns-clause-refused : goal.returns-clause-refused
returns-clause-refused c = subst (BadPrinted c.args.net.now c.args.rules.now c.args.orders.now) (sym (returns-clause-printed c)) (bad_printed c.args.net.now c.args.rules.now c.args.orders.now)
