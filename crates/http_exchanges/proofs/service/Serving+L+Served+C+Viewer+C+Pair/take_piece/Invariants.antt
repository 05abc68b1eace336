use Rattle.std.proofs.Common.{◌≤◌, ◌-◌, length, drop}
use Rattle.std.specs.Arc.{arc_value}
use Rattle.http_exchanges.specs.Boards.{IsOurs}
use Rattle.http_exchanges.specs.Services.{connection, stage}
use Rattle.http_exchanges.specs.Stages.{Talks}
use Rattle.http_exchanges.proofs.service.Serving+L+Served+C+Viewer+C+Pair.take_piece.Given as goal

-- so many bytes of the piece are taken
abbrev pub invariant-loop-done : goal.invariant-loop-done
invariant-loop-done g l =
    (l.done ≤ length l.piece)
    × IsOurs (arc_value l.service.board) l.self.pass
    × Talks g.C.SharedCluster.shows g.C.SharedCluster.agrees (connection g.L.Link.state l.service) (stage g.L.Link.state l.self) (drop l.done l.piece)

abbrev pub decreases-loop-done : goal.decreases-loop-done
decreases-loop-done g l = length l.piece - l.done
