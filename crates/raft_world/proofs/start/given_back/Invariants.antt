use Rattle.std.proofs.Common.{◌≡◌, length}
use Rattle.std.specs.Vec.{vec_capacity}
use Rattle.raft_node.specs.Steps.{stored}
use Rattle.raft_world.proofs.Beginning.{Taken}
use Rattle.raft_world.proofs.start.given_back.Given as goal

abbrev pub invariant-loop-nodes : goal.invariant-loop-nodes
invariant-loop-nodes g l =
    Taken (λ k. stored (g.K.Keeper.held k) (g.K.Keeper.armed k) (g.K.Keeper.faults k) (g.K.Keeper.sure k)) l.back.items l.nodes.items l.fn.nodes.items
    × (vec_capacity l.back ≡ vec_capacity l.fn.back)

abbrev pub decreases-loop-nodes : goal.decreases-loop-nodes
decreases-loop-nodes g l = length l.nodes.items
