use Rattle.std.proofs.Common.{◌-◌, nat_abs, sym, ap₂, arith, w32, to_z, of_z}
use Rattle.rules.specs.Rules.{worked_of}
use Rattle.rules.proofs.Absorbing.{fall_some, cast_is, cast_fits, Reckoned, h_some, addend_fits, round_is, round_modest}
use Rattle.rules.proofs.worked.WorkedRule.absorption.Given as given
use Rattle.rules.proofs.worked.WorkedRule.absorption.Goals as goal

pub overflow_cast-raise : goal.overflow_cast-raise
overflow_cast-raise g c = cast_fits (g.met.N.Net.sound c.args.net.now) c.args.self.now.small_weights c.requires c.raise-raise.result c.raise-raise.ensures

pub overflow_sub-fall : goal.overflow_sub-fall
overflow_sub-fall g c = omega (arith, c.take.ensures, c.give.ensures, fall_some c.requires)

reckoned : (g : given.Over) (c : goal.After-gcd-divisor g) →
    Reckoned (g.N.Net.net c.args.net.now) (worked_of c.args.self.now) c.args.t c.args.p (nat_abs (to_z w32 (of_z w32 c.raise-raise.result))) (c.take.result - c.give.result) c.gcd-divisor.result
reckoned g c = record {
  a_is = cast_is (g.met.N.Net.sound c.args.net.now) c.args.self.now.small_weights c.requires c.raise-raise.result c.raise-raise.ensures;
  e_is = ap₂ (λ i j. i - j) c.take.ensures c.give.ensures;
  gcd = c.gcd-divisor.ensures;
}

pub nonzero_div-result : goal.nonzero_div-result
nonzero_div-result g c = h_some (g.met.N.Net.sound c.args.net.now) c.args.self.now.small_weights c.requires (reckoned g c)

pub nonzero_div-result-2 : goal.nonzero_div-result-2
nonzero_div-result-2 g c = h_some (g.met.N.Net.sound c.args.net.now) c.args.self.now.small_weights c.requires (reckoned g c)

pub overflow_cast-result-2 : goal.overflow_cast-result-2
overflow_cast-result-2 g c = addend_fits (g.met.N.Net.sound c.args.net.now) c.args.self.now.small_weights c.requires (reckoned g c)

pub invariant_of-result : goal.invariant_of-result
invariant_of-result g c = record { modest = round_modest (g.met.N.Net.sound c.args.net.now) c.args.self.now.small_weights c.requires (reckoned g c) }

pub returns : goal.returns
returns g c = sym (round_is (g.met.N.Net.sound c.args.net.now) c.args.self.now.small_weights c.requires (reckoned g c.before))
