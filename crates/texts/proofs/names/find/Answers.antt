use Rattle.std.proofs.Common.{rules}
use Rattle.std.specs.Str.{bytes_eq}
use Rattle.std.proofs.lemmas.Iterator.{IsFirst-from_position, YieldsList-from_slice}
use Rattle.texts.specs.Spans.{part_of}
use Rattle.texts.proofs.Scanning.{Yes, No}
use Rattle.texts.proofs.Naming.{found_is}
use borrow.Author.Tests.{tests}
use Rattle.texts.proofs.names.find.Goals as goal

pub returns-clause-value : goal.returns-clause-value
returns-clause-value g c =
    found_is (λ x. part_of c.args.text.now (g.N.Named.title x)) c.args.name.now c.args.items.now c.position.result
    (IsFirst-from_position _ _ _ (Yes (λ x. bytes_eq (part_of c.args.text.now (g.N.Named.title x)) c.args.name.now)) (No (λ x. bytes_eq (part_of c.args.text.now (g.N.Named.title x)) c.args.name.now)) c.position.ensures.ran
    (YieldsList-from_slice c.args.items.now c.iter.ensures.rest) (λ x q k. search (rules, tests)) (λ x q k. search (rules, tests)))
