use Rattle.std.proofs.Common.{◌≡◌, ◌≤◌, ◌+◌, ◌-◌, length}
use Rattle.std.specs.Arc.{arc_value}
use Rattle.cluster_rules.specs.Sound.{IsAmong}
use Rattle.http_exchanges.specs.Boards.{IsOurs}
use Rattle.http_exchanges.specs.Jobs.{HasEnded}
use Rattle.http_connections.specs.Tasks.{AllTasks, shares_out}
use Rattle.http_connections.specs.Runs.{Handed, HasDrawn, IsStarted}
use Rattle.http_connections.proofs.start.start_tasks.Given as goal

-- so many connections have come, whose links were handed back, or of whose tasks this is known
abbrev pub invariant-loop-n : goal.invariant-loop-n
invariant-loop-n g l =
    (l.n ≤ l.count)
    × IsOurs (arc_value l.server.board) l.pass
    × (g.L.Listener.given l.listener ≡ l.n)
    × HasDrawn (g.W.Words.draws l.words) l.n
    × Handed g.C.SharedCluster.shows g.C.SharedCluster.agrees g.C.SharedCluster.agents (g.W.Words.draws l.words) (λ seen. IsAmong seen l.pass.seat.me.0.told) (g.L.Listener.closed l.fn.listener) (g.L.Listener.closed l.listener) (g.Sp.Spawner.faults l.fn.spawner) (g.Sp.Spawner.faults l.spawner) (g.L.Listener.given l.listener) (length l.jobs.tasks.items) l.jobs.short l.pass.seat.me.0.mine
    × (g.L.Listener.faults l.fn.listener ≤ g.L.Listener.faults l.listener)
    × AllTasks l.jobs.tasks.items
    (λ p d. HasEnded g.C.SharedCluster.shows g.C.SharedCluster.agrees g.L.Link.Link.state p.0.value d)
    (λ p. IsStarted (arc_value l.server.board) g.C.SharedCluster.agents (g.W.Words.draws l.words) g.L.Link.Link.state p.0.value)
    × (g.L.Listener.listens_on l.listener ≡ g.L.Listener.listens_on l.fn.listener)
    × ((seen : _) → IsAmong seen l.fn.pass.seat.me.0.told → IsAmong seen l.pass.seat.me.0.told)
    × (l.pass.shares + shares_out l.jobs.tasks.items (λ p. p.0.value.pass.shares) ≡ l.fn.pass.shares)

abbrev pub decreases-loop-n : goal.decreases-loop-n
decreases-loop-n g l = l.count - l.n
