use Rattle.std.proofs.Common.{◌≡◌, [], Decides, vec_items, rules}
use Rattle.std.proofs.lemmas.List.{nil_from_length}
use Rattle.line.specs.Making.{Slots}
use Rattle.line.proofs.Recorded.{slots_decided}
use Rattle.line.proofs.making.is_line.Goals as goal

pub returns-then-is_empty : goal.returns-then-is_empty
returns-then-is_empty c =
    let ps = vec_items c.args.net.now.places in
    let slots : Decides c.all_filled.result (Slots ps) = slots_decided c.all_filled.result ps c.all_filled.ensures in
    let plain : vec_items c.args.net.now.arcs ≡ [] = nil_from_length (vec_items c.args.net.now.arcs) (search rules) in search rules
