use Rattle.std.proofs.Common.{◌∙◌, rules, tests}
use Rattle.std.proofs.lemmas.Iterator.{YieldsList-from_slice}
use Rattle.std.proofs.lemmas.Iterator.Search.{all_from_yields_List}
use Rattle.table.specs.Made.{joins}
use Rattle.texts.proofs.Scanning.{all_is}
use Rattle.table.proofs.make.all_join.Goals as goal

pub returns : goal.returns
returns c =
    let test = joins c.args.places c.args.moves in
    all_from_yields_List test _ _ _ c.all.ensures.ran (YieldsList-from_slice c.args.arcs.now c.iter.ensures.rest) (λ x b q k. search (rules, tests))
    ∙ all_is test c.args.arcs.now
