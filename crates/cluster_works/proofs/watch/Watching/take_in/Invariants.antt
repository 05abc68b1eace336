use Rattle.std.proofs.Common.{◌-◌, ◌≡◌, ◌≤◌}
use Rattle.cluster_works.specs.Watching.{SameLines, StayAwake, Watching}
use Rattle.cluster_works.proofs.watch.Watching.take_in.Given as goal

abbrev pub invariant-loop-self : goal.invariant-loop-self
invariant-loop-self l =
    let before : Watching = record { watch = l.initial.self-inside.watch; seen = l.initial.self-inside.seen } in
    let after : Watching = record { watch = l.self-inside.watch; seen = l.self-inside.seen } in
    StayAwake before after × SameLines before after × (l.self-inside.watch.servers ≡ l.initial.self-inside.watch.servers) × (l.self-inside.seen ≤ l.asked)

abbrev pub decreases-loop-self : goal.decreases-loop-self
decreases-loop-self l = l.asked - l.self-inside.seen
