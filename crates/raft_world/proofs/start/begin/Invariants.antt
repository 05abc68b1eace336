use Rattle.std.proofs.Common.{◌≡◌, length}
use Rattle.std.specs.Prelude.{All}
use Rattle.std.specs.Option.{ForSome}
use Rattle.std.specs.Vec.{vec_capacity}
use Rattle.raft_node.specs.Nodes.{KeepsLimits}
use Rattle.raft_node.specs.Steps.{stored}
use Rattle.raft_world.proofs.Beginning.{Begun}
use Rattle.raft_world.proofs.start.begin.Given as goal

abbrev pub invariant-loop-alloc : goal.invariant-loop-alloc
invariant-loop-alloc g l =
    Begun (λ k. stored (g.K.Keeper.held k) (g.K.Keeper.armed k) (g.K.Keeper.faults k) (g.K.Keeper.sure k)) l.servers l.fn.waiting.items l.waiting.items l.nodes.items
    × (vec_capacity l.nodes ≡ vec_capacity l.fn.nodes)
    × All (λ k. ForSome (g.K.Keeper.held k) KeepsLimits) l.waiting.items

abbrev pub decreases-loop-alloc : goal.decreases-loop-alloc
decreases-loop-alloc g l = length l.waiting.items
