use Rattle.std.proofs.Common.{map, is_some, sym, ap, ◌∙◌}
use Rattle.texts.specs.Spans.{part_of}
use Rattle.texts.proofs.Naming.{new_from_none}
use Rattle.texts.proofs.names.lacks.Goals as goal

pub returns : goal.returns
returns g c = new_from_none (map (λ x. part_of c.args.text.now (g.N.Named.title x)) c.args.items.now) c.args.name.now c.is_none.result (ap is_some (sym c.find.ensures.value) ∙ c.is_none.ensures)
