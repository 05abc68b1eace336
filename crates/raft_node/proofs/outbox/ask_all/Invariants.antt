use Rattle.std.proofs.Common.{◌≡◌, length}
use Rattle.raft_model.specs.Log.{last_term}
use Rattle.raft_model.specs.Node.{to_others}
use Rattle.raft_model.specs.declared.message.Message.TheVariants.{AskVote}
use Rattle.raft_node.proofs.outbox.ask_all.Given as goal

abbrev pub invariant-loop-before : goal.invariant-loop-before
invariant-loop-before l = l.sent ≡ to_others l.state.id (λ peer. AskVote l.state.term (length l.log) (last_term l.log)) l.before
