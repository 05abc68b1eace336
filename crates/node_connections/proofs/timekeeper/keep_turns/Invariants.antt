use Rattle.std.proofs.Common.{◌≡◌}
use Rattle.std.specs.Arc.{arc_value}
use Rattle.turn_lock.specs.Lists.{IsFront}
use Rattle.node_connections.specs.Boards.{IsOurs, known}
use Rattle.node_connections.specs.Journals.{IsTold}
use Rattle.node_connections.proofs.timekeeper.keep_turns.Given as goal

-- the pass is the board's, has no turn, and has handed in nothing
abbrev pub invariant-loop : goal.invariant-loop
invariant-loop g l =
    IsOurs (arc_value l.fn.keeper.board) l.pass
    × IsTold g.D.Dialer.state (known l.pass).seen
    × IsFront (known l.fn.keeper.pass).seen (known l.pass).seen
    × ((known l.pass).mine ≡ (known l.fn.keeper.pass).mine)
    × (l.pass.shares ≡ l.fn.keeper.pass.shares)
