use Rattle.std.proofs.Common.{true, false, rules}
use Rattle.std.proofs.lemmas.Iterator.{first_from_Range}
use Rattle.plant.proofs.Lowest.{lowest_told}
use Rattle.plant.proofs.find.lowest.Goals as goal

pub returns : goal.returns
returns g c = λ f tells.
    lowest_told f c.args.n c.find.result tells
    (first_from_Range _ _ _ _ (λ p. goal.F-post g c.args.test p true) (λ p. goal.F-post g c.args.test p false) c.find.ensures.ran
    (λ x q k. search rules) (λ x q k. (search rules, search rules)))
