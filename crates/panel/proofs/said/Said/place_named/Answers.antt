use Rattle.std.proofs.Common.{◌≡◌, ◌∷◌, ◌∙◌, rules}
use Rattle.std.specs.Option.{option_map}
use Rattle.panel.specs.Cells.{Cell}
use Rattle.panel.specs.Said.{cell_said}
use Rattle.panel.proofs.Names.{numbered, found_first, found_rule}
use Rattle.panel.proofs.said.Said.place_named.Goals as goal

pub returns-in-Some : goal.returns-in-Some
returns-in-Some c =
    let x : Cell = cell_said c.args.self.now in
    found_first c.args.name.now x.places (x.fixed ∷ x.rules) c.in-Some.p c.in-Some.ensures

pub returns : goal.returns
returns c =
    let x : Cell = cell_said c.args.self.now in
    let mapped : c.map.result ≡ option_map (λ r. numbered c.ground_count-first.result r) c.find_rule.result = search rules in
    mapped ∙ found_rule c.args.name.now x.places (x.fixed ∷ x.rules) c.ground_count-first.result c.find_rule.result c.in_default.ensures c.ground_count-first.ensures.value c.find_rule.ensures
