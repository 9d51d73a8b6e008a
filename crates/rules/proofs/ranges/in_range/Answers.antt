use Rattle.std.proofs.Common.{◌≡◌, ◌≤◌, ◌&&◌, leb, length, nat_abs, sym, refl, ap, ◌∙◌, arith}
use Rattle.std.proofs.lemmas.Int.{ints}
use Rattle.rules.proofs.Testing.{range_is}
use Rattle.rules.proofs.ranges.in_range.Goals as goal

pub returns-then-all_within : goal.returns-then-all_within
returns-then-all_within g c =
    let n = g.N.Net.net c.args.net.now in
    let few : c.ground.result ≤ length c.args.weights.now = omega (arith, c.ground.ensures, c.told-weights, (g.met.N.Net.sound c.args.net.now).ground_few) in
    let same : c.unsigned_abs.result ≡ nat_abs c.args.bound = omega (arith, ints) in
    ap (λ x. x && leb c.unsigned_abs.result c.args.most.bound) (sym c.if-all_within.true)
    ∙ range_is c.args.most.weight c.args.most.bound n c.args.weights.now c.args.bound c.ground.result c.ground.ensures few _ c.all_within.ensures c.unsigned_abs.result same

pub returns-else-all_within : goal.returns-else-all_within
returns-else-all_within g c =
    let n = g.N.Net.net c.args.net.now in
    let few : c.ground.result ≤ length c.args.weights.now = omega (arith, c.ground.ensures, c.told-weights, (g.met.N.Net.sound c.args.net.now).ground_few) in
    c.if-all_within.false ∙ ap (λ x. x && leb (nat_abs c.args.bound) c.args.most.bound) (sym c.if-all_within.false)
    ∙ range_is c.args.most.weight c.args.most.bound n c.args.weights.now c.args.bound c.ground.result c.ground.ensures few _ c.all_within.ensures (nat_abs c.args.bound) refl
