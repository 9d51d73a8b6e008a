use Rattle.std.proofs.Common.{◌≡◌, ◌≤◌, length, take, vec_len, vec_capacity}
use Rattle.model.specs.Ledger.{run, answers}
use Rattle.ledger.specs.Values.{value_of}
use Rattle.ledger.specs.Calls.{calls_of}
use Rattle.ledger.proofs.run.Ledger+Board+P.run.Given as goal

abbrev pub invariant-calls : goal.invariant-calls
invariant-calls g l = record {
  room : length l.calls ≤ vec_capacity l.answers;
  count : vec_len l.answers ≡ l.call-index;
  reached : value_of l.self ≡ run (value_of l.initial.self) (calls_of (take l.call-index l.calls));
  answered : l.answers.items ≡ answers (value_of l.initial.self) (calls_of (take l.call-index l.calls));
}
