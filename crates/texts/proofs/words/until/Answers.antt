use Rattle.std.proofs.Common.{rules, ◌+◌, length, drop, eqb, sym, ap, ◌∙◌}
use Rattle.std.specs.Option.{unwrap_or}
use Rattle.std.proofs.lemmas.Iterator.{IsFirst-from_position, YieldsList-from_slice}
use Rattle.texts.proofs.Scanning.{Yes, No, first_is, rest_from}
use borrow.Author.Tests.{tests}
use Rattle.texts.proofs.words.until.Goals as goal

pub returns-clause-value : goal.returns-clause-value
returns-clause-value c =
    let b = c.args.b in
    let rest = drop c.args.start c.args.text.now in
    let from = rest_from c.args.text.now c.args.start c.min.result c.min.ensures in
    let first = first_is b rest c.position.result (IsFirst-from_position _ _ _ (Yes (λ x. eqb x b)) (No (λ x. eqb x b)) c.position.ensures.ran (YieldsList-from_slice rest (c.iter.ensures.rest ∙ from)) (λ x q k. search (rules, tests)) (λ x q k. search (rules, tests))) in
    ap (λ k. c.args.start + k) (c.unwrap_or.ensures ∙ ap (λ l. unwrap_or c.position.result (length l)) from ∙ sym first)
