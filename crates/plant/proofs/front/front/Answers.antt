use Rattle.std.proofs.Common.{◌≡◌, get_or, map, rules}
use Rattle.std.specs.Fn.{FnReturnsAt}
use Rattle.plant.proofs.Made.{made_at, front_at, front_is}
use Rattle.plant.proofs.front.front.Goals as goal

pub returns : goal.returns
returns g c = λ f tells.
    front_is f c.args.items.now g.row.N c.from_fn.result c.args.spare c.from_fn.ensures.items.long
    (λ p l. made_at _ c.from_fn.result g.row.N (λ i y. y ≡ get_or (map f c.args.items.now) i c.args.spare)
    (λ i y q h k. (search rules, front_at (FnReturnsAt g.F.Fn c.args.value) f c.args.items.now i c.args.spare y tells (search rules) (search rules)))
    c.from_fn.ensures.items p c.args.spare l)
