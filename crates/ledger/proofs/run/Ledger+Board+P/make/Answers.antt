use Rattle.std.proofs.Common.{ap}
use Rattle.ledger.specs.Values.{value_of}
use Rattle.ledger.specs.Calls.{call_of}
use Rattle.ledger.proofs.Upheld.{made, promise_made}
use Rattle.ledger.proofs.run.Ledger+Board+P.make.Goals as goal

pub returns-in-Grant-clause-after : goal.returns-in-Grant-clause-after
returns-in-Grant-clause-after g c = made (value_of c.args.self.now) _ _ _ (ap call_of c.in-Grant.is) c.grant.ensures.after

pub returns-in-Grant-clause-promise : goal.returns-in-Grant-clause-promise
returns-in-Grant-clause-promise g c = promise_made (value_of c.args.self.now) _ _ _ (ap call_of c.in-Grant.is) c.grant.ensures.after

pub returns-in-Commit-clause-promise : goal.returns-in-Commit-clause-promise
returns-in-Commit-clause-promise g c = promise_made (value_of c.args.self.now) _ _ _ (ap call_of c.in-Commit.is) c.commit.ensures.after

pub returns-in-Cancel-clause-promise : goal.returns-in-Cancel-clause-promise
returns-in-Cancel-clause-promise g c = promise_made (value_of c.args.self.now) _ _ _ (ap call_of c.in-Cancel.is) c.cancel.ensures.after

pub returns-in-Report-clause-promise : goal.returns-in-Report-clause-promise
returns-in-Report-clause-promise g c = promise_made (value_of c.args.self.now) _ _ _ (ap call_of c.in-Report.is) c.report.ensures.after

pub returns-in-Admit-clause-after : goal.returns-in-Admit-clause-after
returns-in-Admit-clause-after g c = made (value_of c.args.self.now) _ _ _ (ap call_of c.in-Admit.is) c.admit.ensures.after

pub returns-in-Admit-clause-promise : goal.returns-in-Admit-clause-promise
returns-in-Admit-clause-promise g c = promise_made (value_of c.args.self.now) _ _ _ (ap call_of c.in-Admit.is) c.admit.ensures.after
