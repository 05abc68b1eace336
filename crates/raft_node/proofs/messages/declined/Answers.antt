use Rattle.std.proofs.Common.{◌∙◌, ap, sym, refl, arith}
use Rattle.raft_model.specs.declared.message.Message.{Message}
use Rattle.raft_model.specs.Node.{Node, reply}
use Rattle.raft_model.specs.Rules.{append_to, declined}
use Rattle.raft_node.specs.Nodes.{seen}
use Rattle.raft_node.proofs.Planning.{append_to_is, declined_leader, declined_other, plan_stays}
use Rattle.raft_node.proofs.messages.declined.Goals as goal

pub returns-in_ok-planned-in-Leader : goal.returns-in_ok-planned-in-Leader
returns-in_ok-planned-in-Leader c =
    let s = c.args.state in let log = c.args.log.now in let leader = c.in_ok-leader-in-Leader.leader in
    plan_stays (λ n. declined n n.role c.args.from c.args.last) s leader log _ _ c.in_ok-planned-in-Leader.ensures
    (λ store. declined_leader (seen store s log) s.role c.args.from c.args.last c.in-Leader.is
    ∙ ap (λ (n : Node). reply n c.args.from (append_to n c.args.from)) (sym (c.in_ok-leader-in-Leader.ensures.seen store log))
    ∙ ap (λ (message : Message). reply (seen store leader log) c.args.from message) (append_to_is leader log c.in_ok-append-in-Leader.append store c.args.from c.in_ok-append-in-Leader.ensures))
    c.in_ok-leader-in-Leader.ensures.running
    (λ l. omega (arith, l, c.in_ok-leader-in-Leader.ensures.commit))

pub returns-in-Follower : goal.returns-in-Follower
returns-in-Follower c =
    let s = c.args.state in
    plan_stays (λ n. declined n n.role c.args.from c.args.last) s s c.args.log.now _ _ c.quiet.ensures
    (λ store. declined_other (seen store s c.args.log.now) s.role c.args.from c.args.last c.in-Follower.is) refl (λ l. l)
