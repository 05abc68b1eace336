use Rattle.std.proofs.Common.{[]}
use Rattle.std.specs.Arc.{arc_value}
use Rattle.node_connections.specs.Boards.{IsOurs, known}
use Rattle.node_connections.specs.Journals.{IsTold}
use Rattle.node_connections.specs.Services.{connection, stage}
use Rattle.node_connections.specs.Stages.{Talks}
use Rattle.node_connections.proofs.serving.Serving+SharedNode+K+D+W+L.serve.Given as goal

-- all that was read is taken
abbrev pub invariant-loop : goal.invariant-loop
invariant-loop g l =
    IsOurs (arc_value l.service.board) l.self.pass
    × IsTold g.D.Dialer.state (known l.self.pass).seen
    × Talks (connection g.L.Link.state l.service) (stage g.L.Link.state l.self) []
