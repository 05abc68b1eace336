use Rattle.std.proofs.Common.{◌≡◌, ◌++◌}
use Rattle.raft_model.specs.Node.{to_others}
use Rattle.raft_model.specs.Rules.{append_to}
use Rattle.raft_node.specs.Nodes.{nowhere, seen}
use Rattle.raft_node.proofs.outbox.append_all.Given as goal

abbrev pub invariant-loop-before : goal.invariant-loop-before
invariant-loop-before l = l.sent ≡ to_others l.state.id (append_to (seen nowhere l.state (l.log ++ l.more))) l.before
