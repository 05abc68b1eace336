use Rattle.std.proofs.Common.{reverse}
use Rattle.cluster_rules.specs.Reached.{MayBegin}
use Rattle.http_exchanges.specs.Marks.{agreed_by}
use Rattle.http_front.proofs.Naming.{names_served}
use Rattle.http_front.proofs.connections.serve_closing.Goals as goal

pub returns-in-Ok-clause-names : goal.returns-in-Ok-clause-names
returns-in-Ok-clause-names g c = λ whole long.
    names_served (λ p. g.D.Port.DatagramPort.state p) c.args.options.now.dns (MayBegin g.J.ClusterSize.size.stores) (agreed_by (reverse c.in-Ok.cluster.past))
    (g.Sp.Spawner.faults c.args.spawner.now) (g.Sp.Spawner.faults c.serve_shown-served.new.spawner) c.args.names c.serve_shown-served.result.1.port
    (g.D.Datagrams.closed c.args.datagrams.now) (g.D.Datagrams.closed c.close_port.new.datagrams) c.requires.bound ((rw c.in-Ok.is at c.serve_shown-served.ensures.names) whole long) c.close_port.ensures.closed
