use Rattle.std.proofs.Common.{◌∙◌, sym, refl}
use Rattle.raft_model.specs.Rules.{accepts, offered}
use Rattle.raft_node.specs.Nodes.{seen}
use Rattle.raft_node.proofs.Planning.{answered_apart, answered_matched, offered_leader, offered_other, plan_stays, plan_via}
use Rattle.raft_node.proofs.Taking.{following}
use Rattle.raft_node.proofs.messages.offered.Goals as goal

pub returns-in-Leader-clause-plan : goal.returns-in-Leader-clause-plan
returns-in-Leader-clause-plan c =
    let s = c.args.state in let log = c.args.log.now in
    plan_stays (λ n. offered n n.role c.args.from c.args.prev c.args.prev_term c.args.entries.now c.args.commit c.args.round) s s log _ _ c.quiet.ensures
    (λ store. offered_leader (seen store s log) s.role c.args.from c.args.prev c.args.prev_term c.args.entries.now c.args.commit c.args.round c.in-Leader.is) refl (λ l. l)

pub returns-then-matches : goal.returns-then-matches
returns-then-matches c =
    let s = c.args.state in let log = c.args.log.now in
    record {
      counted = c.in_ok-planned-in-Follower.ensures.counted;
      plan = plan_via (λ n. offered n n.role c.args.from c.args.prev c.args.prev_term c.args.entries.now c.args.commit c.args.round) (λ n. accepts n c.args.from c.args.prev c.args.entries.now c.args.commit c.args.round)
          s s log _ c.in_ok-planned-in-Follower.ensures.plan
          (λ store. offered_other (seen store s log) s.role c.args.from c.args.prev c.args.prev_term c.args.entries.now c.args.commit c.args.round c.in-Follower.is
          ∙ answered_matched (seen store s log) c.args.from c.args.prev c.args.prev_term c.args.entries.now c.args.commit c.args.round (sym c.matches.ensures ∙ c.if-matches.true)) refl (λ l. l);
    }

pub returns-in_ok-planned-in-Follower-2 : goal.returns-in_ok-planned-in-Follower-2
returns-in_ok-planned-in-Follower-2 c =
    let s = c.args.state in let log = c.args.log.now in
    record {
      counted = c.requires.beside.counted;
      plan = plan_stays (λ n. offered n n.role c.args.from c.args.prev c.args.prev_term c.args.entries.now c.args.commit c.args.round) s (following s c.args.from) log _ _ c.in_ok-planned-in-Follower-2.ensures
          (λ store. offered_other (seen store s log) s.role c.args.from c.args.prev c.args.prev_term c.args.entries.now c.args.commit c.args.round c.in-Follower.is
          ∙ answered_apart (seen store s log) c.args.from c.args.prev c.args.prev_term c.args.entries.now c.args.commit c.args.round (sym c.matches.ensures ∙ c.if-matches.false)) refl (λ l. l);
    }
