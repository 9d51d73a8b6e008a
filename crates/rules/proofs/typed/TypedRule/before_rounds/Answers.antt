use Rattle.std.proofs.Common.{◌≡◌, length, ℤ, sym, ◌∙◌, arith, w32, SFits, to_z, of_z, rules}
use Rattle.std.proofs.lemmas.Int.{ints, to_z-of_z}
use Rattle.model.proofs.Checks.{refuse_unless_ok}
use Rattle.rules.proofs.Testing.{typed_on_ground, typed_weights_small, typed_bound_small, typed_is}
use Rattle.rules.proofs.typed.TypedRule.before_rounds.Goals as goal

pub invariant_of-result : goal.invariant_of-result
invariant_of-result g c =
    let n = g.N.Net.net c.args.net.now in
    let s = c.args.self.now in
    let size : length s.weights ≡ 32 = search rules in
    let typed = sym c.can_be_typed.ensures ∙ refuse_unless_ok _ _ (sym c.in_ok-unless.ensures) in
    let low = typed_bound_small n s.weights s.bound size typed in
    record { small_weights = typed_weights_small n s.weights s.bound size typed; small_bound = omega (arith, ints, low); few_rounds = omega arith }

pub returns : goal.returns
returns g c =
    let n = g.N.Net.net c.args.net.now in
    let s = c.args.self.now in
    let size : length s.weights ≡ 32 = search rules in
    let b : ℤ = s.bound in
    let fits : SFits w32 b = search rules in
    let typed = sym c.can_be_typed.ensures ∙ refuse_unless_ok _ _ (sym c.in_ok-unless.ensures) in
    record {
      answer = typed_is n s.weights b size typed (to_z w32 (of_z w32 b)) (to_z-of_z w32 b fits);
      by_ground = typed_on_ground n s.weights b size typed;
    }
