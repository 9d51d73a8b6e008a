use Rattle.std.proofs.Common.{ℤ, w32, SFits, to_z, of_z, rules}
use Rattle.std.proofs.lemmas.Int.{to_z-of_z}
use Rattle.rules.specs.Rules.{rule_of}
use Rattle.rules.proofs.Testing.{typed_if, typed_not}
use Rattle.rules.proofs.typed.TypedRule.can_be_typed.Goals as goal

pub returns-then-in_range : goal.returns-then-in_range
returns-then-in_range g c =
    let b : ℤ = c.args.self.now.bound in
    let f : SFits w32 b = search rules in
    typed_if (g.N.Net.net c.args.net.now) (rule_of c.args.self.now) c.in_range.result (to_z w32 (of_z w32 b)) (to_z-of_z w32 b f) c.in_range.ensures c.is_on_ground.result c.if-in_range.true c.is_on_ground.ensures

pub returns-else-in_range : goal.returns-else-in_range
returns-else-in_range g c =
    let b : ℤ = c.args.self.now.bound in
    let f : SFits w32 b = search rules in
    typed_not (g.N.Net.net c.args.net.now) (rule_of c.args.self.now) c.in_range.result (to_z w32 (of_z w32 b)) (to_z-of_z w32 b f) c.in_range.ensures c.if-in_range.false
