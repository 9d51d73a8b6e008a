use Rattle.std.proofs.Common.{◌∙◌, sym, rules}
use Rattle.std.proofs.lemmas.Iterator.{YieldsList-from_slice}
use Rattle.std.proofs.lemmas.Iterator.Search.{position_from_yields_List}
use Rattle.layers.specs.Rows.{row_of}
use Rattle.layers.proofs.Firsts.{first_is_lowest}
use Rattle.layers.proofs.table.Table.lowest.Goals as goal

pub returns-clause-told : goal.returns-clause-told
returns-clause-told g c = λ f tells.
    let s = c.args.self.now in
    position_from_yields_List (λ row. f (row_of row)) _ _ _ c.position.ensures.ran (YieldsList-from_slice s.rows c.iter.ensures.rest) (λ x b q k. (search rules, tells x.now b (search rules)))
    ∙ first_is_lowest f s.rows _ (s.all ∙ sym s.sized)
