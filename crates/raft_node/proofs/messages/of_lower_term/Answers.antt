use Rattle.std.proofs.Common.{refl}
use Rattle.raft_model.specs.Rules.{of_lower_term}
use Rattle.raft_node.specs.Nodes.{seen}
use Rattle.raft_node.proofs.Planning.{lower_append, lower_other, lower_vote, plan_stays}
use Rattle.raft_node.proofs.messages.of_lower_term.Goals as goal

pub returns-in_ok-planned-in-AskVote : goal.returns-in_ok-planned-in-AskVote
returns-in_ok-planned-in-AskVote c =
    let s = c.args.state in
    plan_stays (λ n. of_lower_term n c.args.from c.args.message.now) s s c.args.log.now _ _ c.in_ok-planned-in-AskVote.ensures
    (λ store. lower_vote (seen store s c.args.log.now) c.args.from c.args.message.now _ _ _ c.in-AskVote.is) refl (λ l. l)

pub returns-in_ok-planned-in-Append : goal.returns-in_ok-planned-in-Append
returns-in_ok-planned-in-Append c =
    let s = c.args.state in
    plan_stays (λ n. of_lower_term n c.args.from c.args.message.now) s s c.args.log.now _ _ c.in_ok-planned-in-Append.ensures
    (λ store. lower_append (seen store s c.args.log.now) c.args.from c.args.message.now _ _ _ _ _ _ c.in-Append.is) refl (λ l. l)

pub returns-in-Vote : goal.returns-in-Vote
returns-in-Vote c =
    let s = c.args.state in
    plan_stays (λ n. of_lower_term n c.args.from c.args.message.now) s s c.args.log.now _ _ c.quiet.ensures
    (λ store. lower_other (seen store s c.args.log.now) c.args.from c.args.message.now c.in-Vote.is) refl (λ l. l)
