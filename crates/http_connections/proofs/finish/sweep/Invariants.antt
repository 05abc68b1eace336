use Rattle.std.proofs.Common.{◌≡◌, ◌+◌, length}
use Rattle.std.specs.Arc.{arc_value}
use Rattle.cluster_rules.specs.Sound.{IsAmong}
use Rattle.http_exchanges.specs.Boards.{IsOurs}
use Rattle.http_exchanges.specs.Jobs.{HasEnded}
use Rattle.http_connections.specs.Tasks.{AllTasks, shares_out}
use Rattle.http_connections.specs.Runs.{IsStarted, Joins}
use Rattle.http_connections.proofs.finish.sweep.Given as goal

-- the links of the tasks that are gone, and what is known of those that are left
abbrev pub invariant-loop-left : goal.invariant-loop-left
invariant-loop-left g l =
    IsOurs (arc_value l.server.board) l.pass
    × (g.L.Listener.given l.listener ≡ g.L.Listener.given l.fn.listener)
    × (g.L.Listener.faults l.listener ≡ g.L.Listener.faults l.fn.listener)
    × ((seen : _) → IsAmong seen l.fn.pass.seat.me.0.told → IsAmong seen l.pass.seat.me.0.told)
    × Joins g.C.SharedCluster.shows g.C.SharedCluster.agrees g.C.SharedCluster.agents (g.W.Words.draws l.words) (λ seen. IsAmong seen l.pass.seat.me.0.told) (g.L.Listener.closed l.fn.listener) (g.L.Listener.closed l.listener) (length l.fn.jobs.tasks.items) (length l.jobs.tasks.items) l.fn.jobs.short l.jobs.short l.fn.pass.seat.me.0.mine l.pass.seat.me.0.mine
    × AllTasks l.jobs.tasks.items
    (λ p d. HasEnded g.C.SharedCluster.shows g.C.SharedCluster.agrees g.L.Link.Link.state p.0.value d)
    (λ p. IsStarted (arc_value l.server.board) g.C.SharedCluster.agents (g.W.Words.draws l.words) g.L.Link.Link.state p.0.value)
    × (g.L.Listener.listens_on l.listener ≡ g.L.Listener.listens_on l.fn.listener)
    × (l.pass.shares + shares_out l.jobs.tasks.items (λ p. p.0.value.pass.shares) ≡ l.fn.pass.shares + shares_out l.fn.jobs.tasks.items (λ p. p.0.value.pass.shares))

abbrev pub decreases-loop-left : goal.decreases-loop-left
decreases-loop-left g l = l.left
