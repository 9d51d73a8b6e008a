-- Lists of calls, and what is promised of them.
--   call_of      the model's call
--   calls_of     the model's list of calls
--   Promised     what the promise says of the ledger l, opened on the pile p with the rules rs in force, after the calls cs: it is that
--                which the calls lead to, and all is upheld of it and of the book of the calls
use Rattle.std.specs.Prelude.{◌≡◌, List, map}
use Rattle.model.specs.Layer.{Pile, InForce}
use Rattle.model.specs.Ledger as model
use Rattle.model.specs.Ledger.{run, answers, new_ledger}
use Rattle.model.specs.Book.{book_of, acceptances}
use Rattle.model.specs.Promise.{Upheld}
use Rattle.rules.specs.Rules.{rule_of}
use Rattle.ledger.specs.declared.call.Call.{Call}
use Rattle.ledger.specs.declared.call.Call.TheVariants.{Grant, Commit, Cancel, Report, Admit}

abbrev pub call_of : Call → model.Call
call_of (Grant t) = model.grant t
call_of (Commit t) = model.commit t
call_of (Cancel t) = model.cancel t
call_of (Report t) = model.report t
call_of (Admit r rule) = model.admit r (rule_of rule)

abbrev pub calls_of : List Call → List model.Call
calls_of cs = map call_of cs

pub record Promised (p : Pile) (rs : List InForce) (cs : List model.Call) (l : model.Ledger) : Type 0 where
  pub reached : l ≡ run (new_ledger p) cs
  pub upheld : Upheld l (book_of p rs cs (acceptances (answers (new_ledger p) cs)))
