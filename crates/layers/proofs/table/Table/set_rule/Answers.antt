use Rattle.std.proofs.Common.{ℕ, get_or, pos, sym, subst, arith}
use Rattle.model.specs.Layer as model
use Rattle.layers.specs.Rows.{rows_of}
use Rattle.layers.specs.Kept.{Kept, kept_rule, kept_change, rows_set}
use Rattle.layers.proofs.table.Table.set_rule.Goals as goal

pub invariant_of-self-clause-kept : goal.invariant_of-self-clause-kept
invariant_of-self-clause-kept g c = λ i.
    let s = c.args.self.now in
    let new = subst Kept (sym c.set_rule.ensures) (kept_rule (λ t. get_or c.args.raises.now t (pos 0)) c.args.free c.requires.room c.requires.small) in
    subst (λ (rows : ℕ → model.Row). Kept (rows i)) (sym (rows_set s.rows c.args.r c.set_rule.new.self (omega (arith, s.all, s.sized, c.requires.row))))
    (kept_change (rows_of s.rows) c.args.r _ s.kept new i)
