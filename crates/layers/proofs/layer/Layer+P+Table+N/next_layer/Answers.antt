use Rattle.std.proofs.Common.{rules, ℕ, ◌+◌, ◌∙◌, ap, sym, arith}
use Rattle.std.specs.Option.{unwrap_or}
use Rattle.std.proofs.lemmas.Iterator.{YieldsList-from_range, YieldsList-from_map}
use Rattle.std.proofs.lemmas.Iterator.Adapters.{option_map_id}
use Rattle.std.proofs.lemmas.Iterator.Consumers.{max_from_yields_List}
use Rattle.model.specs.Net.{Net}
use Rattle.model.specs.Layer.{next_layer}
use Rattle.layers.proofs.Numbering.{next_listed}
use Rattle.layers.proofs.layer.Layer+P+Table+N.next_layer.Goals as goal

pub returns : goal.returns
returns g c =
    let n : Net = g.P.Net.net c.args.self.now.below in
    let f : ℕ → ℕ = λ p. n.layer p + 1 in
    c.unwrap_or.ensures
    ∙ ap (λ o. unwrap_or o 1) (sym (option_map_id c.max.result) ∙ max_from_yields_List c.map.result c.max.result c.max.ensures.ran
    (YieldsList-from_map _ f (YieldsList-from_range 0 c.places.result c.places.result (search rules) (omega arith)) c.map.ensures.closure (λ x r q k. search rules)))
    ∙ next_listed c.places.result n.layer
    ∙ ap (λ k. next_layer k n.layer) c.places.ensures
