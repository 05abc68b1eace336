use Rattle.std.proofs.Common.{◌≡◌, length}
use Rattle.read_watch.specs.Lines.{line_of}
use Rattle.cluster_works.specs.Watching.{LeaveLine, StayAwake}
use Rattle.cluster_works.proofs.wakes.wake_rounds.Given as goal

abbrev pub invariant-loop-watch : goal.invariant-loop-watch
invariant-loop-watch g l = StayAwake l.initial.watch l.watch × LeaveLine l.initial.watch l.watch × (l.watch.watch.servers ≡ l.initial.watch.watch.servers) × (l.watch.seen ≡ l.initial.watch.seen)

abbrev pub decreases-loop-watch : goal.decreases-loop-watch
decreases-loop-watch g l = length (line_of l.watch.watch.rounds l.server)
