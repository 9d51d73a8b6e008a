use Rattle.std.proofs.Common.{◌≡◌, ℕ, ◌<◌, get_or, pos, rules}
use Rattle.model.specs.Rule.{raise}
use Rattle.model.specs.Sizes.{most_moves}
use Rattle.rules.specs.Rules.{worked_of}
use Rattle.plant.proofs.Made.{made_at}
use Rattle.layers.proofs.Raising.{raised_all, raised_small}
use Rattle.layers.proofs.setting.raises.Goals as goal

pub returns : goal.returns
returns g c =
    let n = g.N.Net.net c.args.net.now in
    let weight = (worked_of c.args.rule.now).weight in
    let R = g.met.N.Net.sound c.args.net.now in
    let found : (t : ℕ) → t < most_moves → get_or c.from_fn.result t (pos 0) ≡ raise n weight t =
    λ t l. made_at _ c.from_fn.result most_moves (λ t z. z ≡ raise n weight t) (λ t z q l k. (search rules, search rules)) c.from_fn.ensures.items t (pos 0) l in
    let value = raised_all n weight R c.from_fn.result c.from_fn.ensures.items.long found in
    record { value = value; small = raised_small n weight R c.from_fn.result c.args.rule.now.small_weights value }
