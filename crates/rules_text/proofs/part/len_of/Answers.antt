use Rattle.std.proofs.Common.{◌∙◌, rules, tests}
use Rattle.std.proofs.lemmas.Iterator.{YieldsList-from_slice}
use Rattle.std.proofs.lemmas.Iterator.Consumers.{count_from_yields_List}
use Rattle.std.proofs.lemmas.Iterator.Search.{YieldsList-from_take_while}
use Rattle.std.proofs.lemmas.List.Folds.{length-prefix_len}
use Rattle.rules_text.proofs.part.len_of.Goals as goal

pub returns-clause-value : goal.returns-clause-value
returns-clause-value g c = λ f tells.
    count_from_yields_List c.take_while.result _ c.count.ensures.ran
    (YieldsList-from_take_while _ f (YieldsList-from_slice c.args.bytes.now (cc)) c.take_while.ensures.closure c.take_while.ensures.done (λ x b q k. let told = tells x.now b in search (rules, tests)))
    ∙ length-prefix_len f c.args.bytes.now
