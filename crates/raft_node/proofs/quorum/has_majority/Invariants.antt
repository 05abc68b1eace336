use Rattle.std.proofs.Common.{◌≡◌, ◌≤◌}
use Rattle.raft_model.specs.Quorum.{count, members}
use Rattle.raft_node.proofs.quorum.has_majority.Given as goal

abbrev pub invariant-loop-before : goal.invariant-loop-before
invariant-loop-before l = record {
  counted : l.count ≡ count (members l.votes) l.before;
  few : l.count ≤ l.before;
}
