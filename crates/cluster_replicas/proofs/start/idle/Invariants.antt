use Rattle.std.proofs.Common.{◌≡◌, ◌≤◌, ◌-◌, length, replicate}
use Rattle.applied_state.specs.States.{nothing_applied}
use Rattle.cluster_replicas.proofs.start.idle.Given as goal

abbrev pub invariant-loop-alloc : goal.invariant-loop-alloc
invariant-loop-alloc l = record { many : length l.replicas.items ≤ l.servers; idle : l.replicas.items ≡ replicate (length l.replicas.items) nothing_applied }

abbrev pub decreases-loop-alloc : goal.decreases-loop-alloc
decreases-loop-alloc l = l.servers - length l.replicas.items
