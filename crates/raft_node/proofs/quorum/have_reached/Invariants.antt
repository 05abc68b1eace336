use Rattle.std.proofs.Common.{◌≡◌, ◌≤◌}
use Rattle.raft_model.specs.Quorum.{count}
use Rattle.raft_node.specs.Counting.{reached}
use Rattle.raft_node.proofs.quorum.have_reached.Given as goal

abbrev pub invariant-loop-before : goal.invariant-loop-before
invariant-loop-before l = record {
  counted : l.count ≡ count (reached l.id l.numbers l.least) l.before;
  few : l.count ≤ l.before;
}
