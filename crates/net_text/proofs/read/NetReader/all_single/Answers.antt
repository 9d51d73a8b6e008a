use Rattle.std.proofs.Common.{◌∙◌, eqb, rules, tests, vec_items}
use Rattle.std.proofs.lemmas.Iterator.{YieldsList-from_slice}
use Rattle.std.proofs.lemmas.Iterator.Search.{all_from_yields_List}
use Rattle.net_text.specs.declared.net.Place.{Place}
use Rattle.net_text.specs.Nets.{place_of}
use Rattle.formats.specs.NetText as said
use Rattle.texts.proofs.Scanning.{all_is, all_map}
use Rattle.net_text.proofs.read.NetReader.all_single.Goals as goal

pub returns : goal.returns
returns c =
    let single = λ (p : Place). eqb p.limit 1 in
    let places = vec_items c.args.self.now.net.places in
    all_from_yields_List single _ _ _ c.all.ensures.ran (YieldsList-from_slice places (c.iter.ensures.rest ∙ c.deref.ensures.value)) (λ x b q k. search (rules, tests))
    ∙ all_is single places
    ∙ all_map (λ (p : said.Place). eqb p.limit 1) (place_of c.args.self.now.text.now) places
