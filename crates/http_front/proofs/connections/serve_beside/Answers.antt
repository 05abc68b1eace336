use Rattle.std.proofs.Common.{ap}
use Rattle.http_exchanges.specs.Marks.{agreed_by}
use Rattle.http_front.proofs.Naming.{from_same, leaves_port, leaves_served, rose_before}
use Rattle.http_front.proofs.connections.serve_beside.Goals as goal

pub returns-in-Ok-clause-links : goal.returns-in-Ok-clause-links
returns-in-Ok-clause-links g c =
    from_same g.C.SharedCluster.shows g.C.SharedCluster.agrees g.C.SharedCluster.agents (g.W.Words.draws c.serve_all-cluster.new.words) (g.L.Listener.closed c.args.listener.now) (g.L.Listener.closed c.serve_all-cluster.new.listener)
    (g.Sp.Spawner.faults c.args.spawner.now) (g.Sp.Spawner.faults c.start_answering.new.spawner) (g.Sp.Spawner.faults c.serve_all-cluster.new.spawner) (g.L.Listener.given c.serve_all-cluster.new.listener) c.in-Ok.ensures.counted
    (g.C.SharedCluster.marks c.serve_all-cluster.result.0) c.serve_all-cluster.result.1 (g.C.SharedCluster.marks c.finish_answering-left.new.cluster) (ap (λ (s : _). g.C.SharedCluster.marks s) c.finish_answering-left.ensures.same) c.serve_all-cluster.ensures.links

pub returns-in-Ok-clause-left : goal.returns-in-Ok-clause-left
returns-in-Ok-clause-left g c = leaves_port _ _ _ _ _ _ c.args.names c.in-Ok.answering c.finish_answering-left.result.port c.finish_answering-left.result.short c.in-Ok.ensures.started c.finish_answering-left.ensures.left

pub returns-in-Ok-clause-names : goal.returns-in-Ok-clause-names
returns-in-Ok-clause-names g c = λ whole long.
    leaves_served _ _ _ _ (λ p. g.P.DatagramPort.state p) g.C.SharedCluster.agrees (agreed_by (g.C.SharedCluster.marks c.finish_answering-left.new.cluster))
    (g.Sp.Spawner.faults c.args.spawner.now) (g.Sp.Spawner.faults c.start_answering.new.spawner) (g.Sp.Spawner.faults c.serve_all-cluster.new.spawner)
    (rose_before g.C.SharedCluster.shows g.C.SharedCluster.agrees g.C.SharedCluster.agents (g.W.Words.draws c.serve_all-cluster.new.words) (g.L.Listener.closed c.args.listener.now) (g.L.Listener.closed c.serve_all-cluster.new.listener)
    (g.Sp.Spawner.faults c.args.spawner.now) (g.Sp.Spawner.faults c.start_answering.new.spawner) (g.Sp.Spawner.faults c.serve_all-cluster.new.spawner) (g.L.Listener.given c.serve_all-cluster.new.listener) c.in-Ok.ensures.counted
    (g.C.SharedCluster.marks c.serve_all-cluster.result.0) c.serve_all-cluster.result.1 c.serve_all-cluster.ensures.links whole)
    c.args.names c.in-Ok.answering c.finish_answering-left.result.port c.finish_answering-left.result.short c.in-Ok.ensures.started c.finish_answering-left.ensures.left long
