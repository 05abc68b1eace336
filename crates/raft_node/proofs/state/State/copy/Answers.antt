use Rattle.std.proofs.Common.{◌∙◌, []}
use Rattle.raft_node.specs.Nodes.{nowhere, seen}
use Rattle.raft_node.proofs.state.State.copy.Goals as goal

pub returns : goal.returns
returns c = λ i. record (seen nowhere c.args.self.now []) {
  votes = (c.in_ok-copied_votes.ensures ∙ c.deref.ensures.value) i;
  next = (c.in_ok-copied.ensures ∙ c.deref-2.ensures.value) i;
  matched = (c.in_ok-copied-2.ensures ∙ c.deref-3.ensures.value) i;
  acked = (c.in_ok-copied-3.ensures ∙ c.deref-4.ensures.value) i;
}
