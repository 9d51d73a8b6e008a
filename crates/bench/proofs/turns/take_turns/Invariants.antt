use Rattle.std.proofs.Common.{◌*◌, ◌≤◌}
use Rattle.bench.proofs.turns.take_turns.Given as goal

-- two calls a turn
abbrev pub invariant-loop-turn : goal.invariant-loop-turn
invariant-loop-turn g l = l.passed ≤ 2 * l.turn
