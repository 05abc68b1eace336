use Rattle.std.proofs.Common.{◌≡◌, ◌≤◌, length}
use Rattle.raft_model.specs.Rules.{committed_upto}
use Rattle.raft_node.specs.Counting.{counting}
use Rattle.raft_node.proofs.quorum.committed.Given as goal

abbrev pub invariant-loop-index : goal.invariant-loop-index
invariant-loop-index l = record {
  within : l.index ≤ length l.entries;
  same : committed_upto (counting l.id l.servers l.term l.commit l.entries l.matched) (length l.entries) ≡ committed_upto (counting l.id l.servers l.term l.commit l.entries l.matched) l.index;
}

abbrev pub decreases-loop-index : goal.decreases-loop-index
decreases-loop-index l = l.index
