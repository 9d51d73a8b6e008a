use Rattle.std.proofs.Common.{sym, ap, subst}
use Rattle.model.specs.Net.{Net}
use Rattle.model.specs.Sizes.{board_rows}
use Rattle.layers.specs.Rows.{rows_of}
use Rattle.layers.specs.Piles.{board_pile}
use Rattle.layers.specs.Shut.{same_net}
use Rattle.rules.specs.Rules.{rule_of}
use Rattle.ledger.specs.Grants.{Tallied}
use Rattle.ledger.proofs.Admitted.{admit_refused, admit_after, admit_tallied}
use Rattle.ledger.proofs.admitting.«Ledger+Board+P».admit.Goals as goal

pub returns-in_err-check_none_open-clause-after : goal.returns-in_err-check_none_open-clause-after
returns-in_err-check_none_open-clause-after g c =
    let s = c.args.self.now in
    let tallied = subst (λ (n : Net). Tallied n s.grants) (sym (same_net board_rows (g.P.Net.net s.pile.below) (rows_of s.pile.rows.rows))) s.tallied in
    admit_refused (board_pile g.P.Net.net g.P.Plant.tokens s.pile) s.grants tallied c.args.r (rule_of c.args.rule.now) _ c.in_err-check_none_open.ensures

pub invariant_of-self : goal.invariant_of-self
invariant_of-self g c =
    let s = c.args.self.now in
    let after = c.set.new.self in
    let tallied = subst (λ (n : Net). Tallied n s.grants) (sym (same_net board_rows (g.P.Net.net s.pile.below) (rows_of s.pile.rows.rows))) s.tallied in
    record {
      tallied = subst (λ (n : Net). Tallied n s.grants) (same_net board_rows (g.P.Net.net after.below) (rows_of after.rows.rows))
          (admit_tallied (board_pile g.P.Net.net g.P.Plant.tokens s.pile) s.grants tallied c.args.r (rule_of c.args.rule.now)
          (board_pile g.P.Net.net g.P.Plant.tokens after) c.set.result c.in_ok-check_none_open.ensures c.set.ensures.answer
          (λ f e. ap (board_pile g.P.Net.net g.P.Plant.tokens) (c.set.ensures.refused f e)) c.set.ensures.set);
    }

pub returns-clause-after : goal.returns-clause-after
returns-clause-after g c =
    let s = c.args.self.now in
    let tallied = subst (λ (n : Net). Tallied n s.grants) (sym (same_net board_rows (g.P.Net.net s.pile.below) (rows_of s.pile.rows.rows))) s.tallied in
    admit_after (board_pile g.P.Net.net g.P.Plant.tokens s.pile) s.grants tallied c.args.r (rule_of c.args.rule.now)
    (board_pile g.P.Net.net g.P.Plant.tokens c.set.new.self) c.set.result c.in_ok-check_none_open.ensures c.set.ensures.answer
    (λ f e. ap (board_pile g.P.Net.net g.P.Plant.tokens) (c.set.ensures.refused f e)) c.set.ensures.set
