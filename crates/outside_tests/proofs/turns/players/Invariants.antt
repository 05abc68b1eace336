use Rattle.turn_lock.specs.Passes.{IsFree, IsSame}
use Rattle.outside_tests.proofs.turns.players.Given as goal

-- the pass is the same, and has no turn
abbrev pub invariant-loop-number : goal.invariant-loop-number
invariant-loop-number l = IsSame l.fn.pass.seat l.pass.seat × IsFree l.pass.seat
