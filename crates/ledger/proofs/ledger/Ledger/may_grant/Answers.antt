use Rattle.ledger.proofs.Asked.{grant_asked}
use Rattle.ledger.proofs.ledger.Ledger.may_grant.Goals as goal

pub returns : goal.returns
returns g c =
    let s = g.met.P.Plant.stacked c.args.self.now.pile in
    grant_asked (g.P.Plant.pile c.args.self.now.pile) (g.P.Net.net c.args.self.now.pile) (g.P.Plant.tokens c.args.self.now.pile) c.args.self.now.grants c.args.t s.0 s.1
    c.check_room.result c.in_ok-check_grant.ensures c.in_ok-may_begin.ensures c.check_room.ensures
