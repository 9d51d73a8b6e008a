use Rattle.std.proofs.Common.{rules, tests}
use Rattle.std.proofs.lemmas.Iterator.{YieldsList-from_slice}
use Rattle.std.proofs.lemmas.Iterator.Search.{all_from_yields_List}
use Rattle.bank.proofs.Building.{single, singles_decided}
use Rattle.bank.proofs.making.all_single.Goals as goal

pub returns : goal.returns
returns c =
    singles_decided c.all.result c.args.places.now
    (all_from_yields_List single _ _ _ c.all.ensures.ran (YieldsList-from_slice c.args.places.now c.iter.ensures.rest) (λ x b q k. search (rules, tests)))
