use Rattle.std.proofs.Common.{◌≡◌}
use Rattle.std.specs.Arc.{arc_value}
use Rattle.http_exchanges.specs.Boards.{IsOurs, known}
use Rattle.http_connections.proofs.timekeeper.keep_clocks.Given as goal

-- the pass is the board's, without a turn, and has asked nothing
abbrev pub invariant-loop : goal.invariant-loop
invariant-loop g l = IsOurs (arc_value l.fn.keeper.server.board) l.pass × ((known l.pass).mine ≡ (known l.fn.keeper.pass).mine) × (l.pass.shares ≡ l.fn.keeper.pass.shares)
