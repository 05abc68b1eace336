use Rattle.std.proofs.Common.{◌≡◌, ◌<◌, ◌≤◌, ◌∙◌, ap, length, refl, arith}
use Rattle.raft_model.specs.declared.message.Message.{Message}
use Rattle.raft_model.specs.Node.{of_server, reply}
use Rattle.raft_model.specs.Rules.{after_yes}
use Rattle.raft_node.specs.Nodes.{seen}
use Rattle.raft_node.proofs.Planning.{after_has, after_lacks, after_rose, append_all_is, append_to_is, plan_stays}
use Rattle.raft_node.proofs.messages.after_yes.Goals as goal

pub returns-then-before-state : goal.returns-then-before-state
returns-then-before-state c =
    let s = c.args.state in let log = c.args.log.now in
    plan_stays (λ n. after_yes (record n { commit = c.args.before }) n c.args.from) s s log c.in_ok-sent.sent _ refl
    (λ store. after_rose (record (seen store s log) { commit = c.args.before }) (seen store s log) c.args.from c.if-before-state.true ∙ append_all_is s log c.in_ok-sent.sent store c.in_ok-sent.ensures) refl (λ l. l)

pub returns-then-of_server-log : goal.returns-then-of_server-log
returns-then-of_server-log c =
    let s = c.args.state in let log = c.args.log.now in
    let e : c.of_server.result ≡ of_server s.next.items c.args.from = cc in
    let m : of_server s.next.items c.args.from ≤ length log = omega (arith, e) in
    plan_stays (λ n. after_yes (record n { commit = c.args.before }) n c.args.from) s s log _ _ c.in_ok-planned.ensures
    (λ store. after_lacks (record (seen store s log) { commit = c.args.before }) (seen store s log) c.args.from c.if-before-state.false m
    ∙ ap (λ (message : Message). reply (seen store s log) c.args.from message) (append_to_is s log c.in_ok-append.append store c.args.from c.in_ok-append.ensures)) refl (λ l. l)

pub returns : goal.returns
returns c =
    let s = c.args.state in let log = c.args.log.now in
    let e : c.of_server.result ≡ of_server s.next.items c.args.from = cc in
    let m : length log < of_server s.next.items c.args.from = omega (arith, e) in
    plan_stays (λ n. after_yes (record n { commit = c.args.before }) n c.args.from) s s log _ _ c.quiet.ensures
    (λ store. after_has (record (seen store s log) { commit = c.args.before }) (seen store s log) c.args.from c.if-before-state.false m) refl (λ l. l)
