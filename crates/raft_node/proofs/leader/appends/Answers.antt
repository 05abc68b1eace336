use Rattle.std.proofs.Common.{ap, ◌∙◌, ◌++◌, ◌∷◌, []}
use Rattle.raft_node.proofs.Leads.{appends_plan}
use Rattle.raft_node.proofs.leader.appends.Goals as goal

pub returns : goal.returns
returns c =
    appends_plan c.args.state c.args.log.now c.args.entry c.commit_of.result c.push.new.self c.as_slice.result.now c.in_ok-sent.sent c.requires.limits c.commit_of.ensures
    (c.in_ok-push.ensures.ok ∙ ap (λ xs. xs ++ c.args.entry ∷ []) c.new-entries.ensures) c.as_slice.ensures c.in_ok-sent.ensures
