use Rattle.std.proofs.Common.{◌≤◌, ◌-◌, length, drop}
use Rattle.std.specs.Arc.{arc_value}
use Rattle.node_connections.specs.Boards.{IsOurs, known}
use Rattle.node_connections.specs.Journals.{IsTold}
use Rattle.node_connections.specs.Services.{connection, stage}
use Rattle.node_connections.specs.Stages.{Talks}
use Rattle.node_connections.proofs.serving.Serving+SharedNode+K+D+W+L.take_piece.Given as goal

-- so many bytes of the piece are taken
abbrev pub invariant-loop-done : goal.invariant-loop-done
invariant-loop-done g l =
    (l.done ≤ length l.piece)
    × IsOurs (arc_value l.service.board) l.self.pass
    × IsTold g.D.Dialer.state (known l.self.pass).seen
    × Talks (connection g.L.Link.state l.service) (stage g.L.Link.state l.self) (drop l.done l.piece)

abbrev pub decreases-loop-done : goal.decreases-loop-done
decreases-loop-done g l = length l.piece - l.done
