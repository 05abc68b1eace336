use Rattle.std.proofs.Common.{sym, ◌∙◌, Some, refl}
use Rattle.raft_node.specs.Nodes.{seen}
use Rattle.raft_model.specs.Rules.{asked}
use Rattle.raft_node.proofs.Planning.{asked_declined, asked_granted, plan_stays}
use Rattle.raft_node.proofs.messages.asked.Goals as goal

pub returns-then-grants : goal.returns-then-grants
returns-then-grants c =
    let s = c.args.state in
    plan_stays (λ n. asked n c.args.from c.args.last_index c.args.last_term) s (record s { vote = Some c.args.from }) c.args.log.now _ _ c.in_ok-planned.ensures
    (λ store. asked_granted (seen store s c.args.log.now) c.args.from c.args.last_index c.args.last_term (sym c.grants.ensures ∙ c.if-grants.true)) refl (λ l. l)

pub returns : goal.returns
returns c =
    let s = c.args.state in
    plan_stays (λ n. asked n c.args.from c.args.last_index c.args.last_term) s s c.args.log.now _ _ c.in_ok-planned-2.ensures
    (λ store. asked_declined (seen store s c.args.log.now) c.args.from c.args.last_index c.args.last_term (sym c.grants.ensures ∙ c.if-grants.false)) refl (λ l. l)
