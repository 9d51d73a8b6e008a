use Rattle.std.proofs.Common.{◌∙◌, rules, tests, vec_items}
use Rattle.std.proofs.lemmas.Iterator.{YieldsList-from_slice}
use Rattle.std.proofs.lemmas.Iterator.Search.{all_from_yields_List}
use Rattle.net_text.specs.Filled.{is_filled}
use Rattle.texts.proofs.Scanning.{all_is}
use Rattle.net_text.proofs.net.NetText.all_filled.Goals as goal

pub returns : goal.returns
returns c =
    let places = vec_items c.args.self.now.places in
    all_from_yields_List is_filled _ _ _ c.all.ensures.ran (YieldsList-from_slice places (c.iter.ensures.rest ∙ c.deref.ensures.value)) (λ x b q k. search (rules, tests))
    ∙ all_is is_filled places
