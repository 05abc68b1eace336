use Rattle.std.proofs.Common.{◌≡◌, true, false, refl}
use Rattle.raft_model.specs.Quorum.{is_majority, members}
use Rattle.raft_model.specs.Rules.{counted, leads}
use Rattle.raft_node.specs.Nodes.{seen}
use Rattle.raft_node.proofs.Planning.{counted_leads, counted_waits, plan_stays, plan_via}
use Rattle.raft_node.proofs.messages.counted.Goals as goal

pub returns-then-has_majority : goal.returns-then-has_majority
returns-then-has_majority c =
    let s = c.args.state in
    let e : is_majority s.servers (members s.votes.items) ≡ true = cc in
    plan_via counted leads s s c.args.log.now c.in_ok-planned.planned c.in_ok-planned.ensures (λ store. counted_leads (seen store s c.args.log.now) e) refl (λ l. l)

pub returns : goal.returns
returns c =
    let s = c.args.state in
    let e : is_majority s.servers (members s.votes.items) ≡ false = cc in
    plan_stays counted s s c.args.log.now _ _ c.quiet.ensures (λ store. counted_waits (seen store s c.args.log.now) e) refl (λ l. l)
