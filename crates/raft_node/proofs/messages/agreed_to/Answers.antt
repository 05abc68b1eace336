use Rattle.std.proofs.Common.{◌≡◌, ◌∙◌, ap, length, refl, arith}
use Rattle.raft_model.specs.Node.{Node}
use Rattle.raft_model.specs.Rules.{after_yes, agreed_to, committed_upto}
use Rattle.raft_node.specs.Counting.{counting}
use Rattle.raft_node.specs.Nodes.{seen}
use Rattle.raft_node.proofs.Planning.{after_by, agreed_beyond, agreed_leader, agreed_other, committed_is, plan_stays, plan_via, upto_within}
use Rattle.raft_node.proofs.messages.agreed_to.Goals as goal

pub returns-then-matched-log : goal.returns-then-matched-log
returns-then-matched-log c =
    let s = c.args.state in let log = c.args.log.now in
    plan_stays (λ n. agreed_to n n.role c.args.from c.args.matched c.args.round) s s log _ _ c.quiet.ensures
    (λ store. agreed_beyond (seen store s log) s.role c.args.from c.args.matched c.args.round c.in-Leader.is c.if-matched-log.true) refl (λ l. l)

pub returns-in_ok-planned-in-Leader : goal.returns-in_ok-planned-in-Leader
returns-in_ok-planned-in-Leader c =
    let s = c.args.state in let log = c.args.log.now in let leader = c.noted-leader.result in let commit = c.committed.result in
    let k : commit ≡ committed_upto (counting leader.id leader.servers leader.term s.commit log leader.matched.items) (length log) = c.committed.ensures ∙ ap (λ m. committed_upto (counting leader.id leader.servers leader.term s.commit log m) (length log)) c.deref.ensures.value in
    plan_via (λ n. agreed_to n n.role c.args.from c.args.matched c.args.round) (λ n. after_yes (record n { commit = s.commit }) n c.args.from) s (record leader { commit = commit }) log _ c.in_ok-planned-in-Leader.ensures
    (λ store. agreed_leader (seen store s log) s.role c.args.from c.args.matched c.args.round c.in-Leader.is c.if-matched-log.false
    ∙ ap (λ (n : Node). after_yes (seen store s log) n c.args.from) (committed_is leader log store s.commit commit _ (c.noted-leader.ensures.seen store log) c.noted-leader.ensures.commit k)
    ∙ after_by (seen store s log) (record (seen store (record leader { commit = commit }) log) { commit = s.commit }) (seen store (record leader { commit = commit }) log) c.args.from refl)
    c.noted-leader.ensures.running
    (λ l. let u = upto_within (counting leader.id leader.servers leader.term s.commit log leader.matched.items) (length log) (length log) l (omega arith) in omega (arith, u, k))

pub returns-in-Follower : goal.returns-in-Follower
returns-in-Follower c =
    let s = c.args.state in
    plan_stays (λ n. agreed_to n n.role c.args.from c.args.matched c.args.round) s s c.args.log.now _ _ c.quiet-in-Follower.ensures
    (λ store. agreed_other (seen store s c.args.log.now) s.role c.args.from c.args.matched c.args.round c.in-Follower.is) refl (λ l. l)
