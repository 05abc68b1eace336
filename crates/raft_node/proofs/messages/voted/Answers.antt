use Rattle.std.proofs.Common.{◌≡◌, ◌∙◌, ap, sym, refl, true, false, List, ℕ}
use Rattle.raft_model.specs.Rules.{counted, voted, with_voter}
use Rattle.raft_node.specs.Nodes.{seen}
use Rattle.raft_node.proofs.Planning.{plan_stays, plan_via, voted_declined, voted_granted, voted_other}
use Rattle.raft_node.proofs.messages.voted.Goals as goal

pub returns-then-not-granted : goal.returns-then-not-granted
returns-then-not-granted c =
    let s = c.args.state in
    let e : c.args.granted ≡ false = cc in
    plan_stays (λ n. voted n c.args.from c.args.granted n.role) s s c.args.log.now _ _ c.quiet.ensures
    (λ store. voted_declined (seen store s c.args.log.now) c.args.from c.args.granted s.role e) refl (λ l. l)

pub returns-in_ok-planned-in-Candidate : goal.returns-in_ok-planned-in-Candidate
returns-in_ok-planned-in-Candidate c =
    let s = c.args.state in let log = c.args.log.now in
    let e : c.args.granted ≡ true = cc in
    let d : s.votes.items ≡ c.deref.result.now = cc in
    let v : with_voter s.votes.items c.args.from ≡ c.in_ok-state-in-Candidate.field-0.items = ap (λ (w : List ℕ). with_voter w c.args.from) d ∙ sym c.in_ok-state-in-Candidate.ensures in
    plan_via (λ n. voted n c.args.from c.args.granted n.role) counted s (record s { votes = c.in_ok-state-in-Candidate.field-0 }) log _ c.in_ok-planned-in-Candidate.ensures
    (λ store. voted_granted (seen store s log) c.args.from c.args.granted s.role e c.in-Candidate.is ∙ ap (λ (votes : List ℕ). counted (record (seen store s log) { votes = votes })) v) refl (λ l. l)

pub returns-in-Leader : goal.returns-in-Leader
returns-in-Leader c =
    let s = c.args.state in
    plan_stays (λ n. voted n c.args.from c.args.granted n.role) s s c.args.log.now _ _ c.quiet-in-Leader.ensures
    (λ store. voted_other (seen store s c.args.log.now) c.args.from c.args.granted s.role c.in-Leader.is) refl (λ l. l)
