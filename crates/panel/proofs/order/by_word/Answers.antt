use Rattle.std.proofs.Common.{codes, arith, rules}
use Rattle.std.proofs.lemmas.Slice.Eq.{text_from_reads}
use Rattle.panel.proofs.order.by_word.Goals as goal

pub returns-in-commit : goal.returns-in-commit
returns-in-commit c = rw (text_from_reads c.args.word.now (codes "commit") (omega arith) (search rules)) (search rules)

pub returns-in-cancel : goal.returns-in-cancel
returns-in-cancel c = rw (text_from_reads c.args.word.now (codes "cancel") (omega arith) (search rules)) (search rules)

pub returns-in-report : goal.returns-in-report
returns-in-report c = rw (text_from_reads c.args.word.now (codes "report") (omega arith) (search rules)) (search rules)

pub returns-in-admit : goal.returns-in-admit
returns-in-admit c = rw (text_from_reads c.args.word.now (codes "admit") (omega arith) (search rules)) (search rules)

pub returns-in-show : goal.returns-in-show
returns-in-show c = rw (text_from_reads c.args.word.now (codes "show") (omega arith) (search rules)) (search rules)
