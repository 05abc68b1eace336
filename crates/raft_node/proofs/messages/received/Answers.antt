use Rattle.std.proofs.Common.{ℕ, ◌<◌, ◌≤◌, ◌∙◌, ap, sym, subst, refl, arith}
use Rattle.raft_model.specs.Node.{Node}
use Rattle.raft_model.specs.Rules.{of_lower_term, of_own_term, received, risen}
use Rattle.raft_node.specs.Nodes.{seen}
use Rattle.raft_node.proofs.Planning.{plan_same, plan_via, received_lower, received_own}
use Rattle.raft_node.proofs.messages.received.Goals as goal

pub returns-then-term-copy-clause-plan : goal.returns-then-term-copy-clause-plan
returns-then-term-copy-clause-plan c =
    let log = c.args.log.now in let copy = c.in_ok-copy.copy in
    let below : ℕ → Type 0 = λ t. t < copy.term in
    plan_same (λ n. received n c.args.from c.args.message.now) c.args.state.now copy log _ c.in_ok-copy.ensures
    (plan_via (λ n. received n c.args.from c.args.message.now) (λ n. of_lower_term n c.args.from c.args.message.now) copy copy log _ c.in_ok-planned.ensures
    (λ store. received_lower (seen store copy log) c.args.from c.args.message.now (subst below c.term_of-term.ensures c.if-term-copy.true)) refl (λ l. l))

pub of_own_term-requires-clause-beside : goal.of_own_term-requires-clause-beside
of_own_term-requires-clause-beside c =
    let e = ap (λ (n : Node). n.commit) c.in_ok-copy.ensures in
    record { committed = omega (arith, e, c.risen.ensures.commit, c.requires.beside.committed); counted = c.requires.beside.counted }

pub returns-clause-plan : goal.returns-clause-plan
returns-clause-plan c =
    let log = c.args.log.now in let copy = c.in_ok-copy.copy in
    let above : ℕ → Type 0 = λ t. copy.term ≤ t in
    plan_same (λ n. received n c.args.from c.args.message.now) c.args.state.now copy log _ c.in_ok-copy.ensures
    (plan_via (λ n. received n c.args.from c.args.message.now) (λ n. of_own_term n c.args.from c.args.message.now) copy c.risen.result log _ c.in_ok-planned-2.ensures.plan
    (λ store. received_own (seen store copy log) c.args.from c.args.message.now (subst above c.term_of-term.ensures c.if-term-copy.false)
    ∙ ap (λ (n : Node). of_own_term n c.args.from c.args.message.now) (sym (c.risen.ensures.seen store log ∙ ap (λ t. risen (seen store copy log) t) c.term_of-term.ensures)))
    c.risen.ensures.running (λ l. omega (arith, l, c.risen.ensures.commit)))
