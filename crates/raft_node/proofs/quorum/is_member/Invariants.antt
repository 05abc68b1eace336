use Rattle.std.proofs.Common.{◌≡◌, drop}
use Rattle.raft_model.specs.Quorum.{members}
use Rattle.raft_node.proofs.quorum.is_member.Given as goal

abbrev pub invariant-loop-vote : goal.invariant-loop-vote
invariant-loop-vote l = members l.votes l.server ≡ members (drop l.vote-index l.votes) l.server
