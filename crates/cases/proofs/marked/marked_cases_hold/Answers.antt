use Rattle.cases.proofs.Computed.{marked_hold}
use Rattle.cases.proofs.TheLine.{is_a_line}
use Rattle.cases.proofs.marked.marked_cases_hold.Goals as goal

pub returns-clause-cases : goal.returns-clause-cases
returns-clause-cases c = marked_hold

pub returns-clause-line : goal.returns-clause-line
returns-clause-line c = is_a_line
