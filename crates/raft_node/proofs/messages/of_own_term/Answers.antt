use Rattle.std.proofs.Common.{◌∙◌, ap, sym, refl}
use Rattle.std.proofs.lemmas.Result.{IfOk-weaker}
use Rattle.raft_model.specs.Log.{Log}
use Rattle.raft_model.specs.Rules.{agreed_to, asked, declined, of_own_term, offered, voted}
use Rattle.raft_node.specs.Nodes.{seen, Plans}
use Rattle.raft_node.proofs.Planning.{own_append, own_ask, own_no, own_vote, own_yes, plan_via}
use Rattle.raft_node.proofs.messages.of_own_term.Goals as goal

pub returns-in-AskVote-clause-plan : goal.returns-in-AskVote-clause-plan
returns-in-AskVote-clause-plan c =
    let s = c.args.state in let log = c.args.log.now in let m = c.in-AskVote in
    IfOk-weaker c.asked.result (Plans (λ n. asked n c.args.from m.last_index m.last_term) s log) (Plans (λ n. of_own_term n c.args.from c.args.message.now) s log)
    (λ p h. plan_via (λ n. of_own_term n c.args.from c.args.message.now) (λ n. asked n c.args.from m.last_index m.last_term) s s log p h
    (λ store. own_ask (seen store s log) c.args.from c.args.message.now m.term m.last_index m.last_term m.is) refl (λ l. l)) c.asked.ensures

pub returns-in-Vote-clause-plan : goal.returns-in-Vote-clause-plan
returns-in-Vote-clause-plan c =
    let s = c.args.state in let log = c.args.log.now in let m = c.in-Vote in
    IfOk-weaker c.voted.result (Plans (λ n. voted n c.args.from m.granted n.role) s log) (Plans (λ n. of_own_term n c.args.from c.args.message.now) s log)
    (λ p h. plan_via (λ n. of_own_term n c.args.from c.args.message.now) (λ n. voted n c.args.from m.granted n.role) s s log p h
    (λ store. own_vote (seen store s log) c.args.from c.args.message.now m.term m.granted m.is) refl (λ l. l)) c.voted.ensures

pub returns-in-Append-clause-plan : goal.returns-in-Append-clause-plan
returns-in-Append-clause-plan c =
    let s = c.args.state in let log = c.args.log.now in let m = c.in-Append in
    IfOk-weaker c.offered.result (Plans (λ n. offered n n.role c.args.from m.prev_index m.prev_term c.as_slice.result.now m.commit m.round) s log) (Plans (λ n. of_own_term n c.args.from c.args.message.now) s log)
    (λ p h. plan_via (λ n. of_own_term n c.args.from c.args.message.now) (λ n. offered n n.role c.args.from m.prev_index m.prev_term c.as_slice.result.now m.commit m.round) s s log p h
    (λ store. own_append (seen store s log) c.args.from c.args.message.now m.term m.prev_index m.prev_term m.entries m.commit m.round m.is
    ∙ ap (λ (z : Log). offered (seen store s log) s.role c.args.from m.prev_index m.prev_term z m.commit m.round) (sym c.as_slice.ensures)) refl (λ l. l)) c.offered.ensures.plan

pub returns-in-Yes-clause-plan : goal.returns-in-Yes-clause-plan
returns-in-Yes-clause-plan c =
    let s = c.args.state in let log = c.args.log.now in let m = c.in-Yes in
    IfOk-weaker c.agreed_to.result (Plans (λ n. agreed_to n n.role c.args.from m.matched m.round) s log) (Plans (λ n. of_own_term n c.args.from c.args.message.now) s log)
    (λ p h. plan_via (λ n. of_own_term n c.args.from c.args.message.now) (λ n. agreed_to n n.role c.args.from m.matched m.round) s s log p h
    (λ store. own_yes (seen store s log) c.args.from c.args.message.now m.term m.matched m.round m.is) refl (λ l. l)) c.agreed_to.ensures

pub returns-in-No-clause-plan : goal.returns-in-No-clause-plan
returns-in-No-clause-plan c =
    let s = c.args.state in let log = c.args.log.now in let m = c.in-No in
    IfOk-weaker c.declined.result (Plans (λ n. declined n n.role c.args.from m.last) s log) (Plans (λ n. of_own_term n c.args.from c.args.message.now) s log)
    (λ p h. plan_via (λ n. of_own_term n c.args.from c.args.message.now) (λ n. declined n n.role c.args.from m.last) s s log p h
    (λ store. own_no (seen store s log) c.args.from c.args.message.now m.term m.last m.is) refl (λ l. l)) c.declined.ensures
