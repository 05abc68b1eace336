use Rattle.std.proofs.Common.{[]}
use Rattle.std.specs.Arc.{arc_value}
use Rattle.http_exchanges.specs.Boards.{IsOurs}
use Rattle.http_exchanges.specs.Services.{connection, stage}
use Rattle.http_exchanges.specs.Stages.{Talks}
use Rattle.http_exchanges.proofs.service.Serving+L+Served+C+Viewer+C+Pair.serve.Given as goal

-- all that was read is taken
abbrev pub invariant-loop : goal.invariant-loop
invariant-loop g l =
    IsOurs (arc_value l.service.board) l.self.pass
    × Talks g.C.SharedCluster.shows g.C.SharedCluster.agrees (connection g.L.Link.state l.service) (stage g.L.Link.state l.self) []
