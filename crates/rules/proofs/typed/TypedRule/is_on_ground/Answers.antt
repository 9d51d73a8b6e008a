use Rattle.std.proofs.Common.{◌≡◌, length, rules}
use Rattle.rules.proofs.Testing.{beyond_is}
use Rattle.rules.proofs.typed.TypedRule.is_on_ground.Goals as goal

pub returns : goal.returns
returns g c =
    let ws = c.args.self.now.weights in
    let size : length ws ≡ 32 = search rules in
    beyond_is (g.N.Net.net c.args.net.now) ws c.args.self.now.bound c.ground.result c.ground.ensures size _ c.all_within.ensures
