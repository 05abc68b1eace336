use Rattle.std.proofs.Common.{[], ap, arith, inl, refl, subst, ◌∙◌, ◌≢◌}
use Rattle.raft_model.specs.Rules.{Receive}
use Rattle.raft_model.specs.Step.{Forgets}
use Rattle.raft_node.specs.Steps.{Steps}
use Rattle.node_journals.specs.Journals.{Given}
use Rattle.node_link.specs.Hosts.{Hosted, Receives, has_grant, told}
use Rattle.node_link.proofs.Hosting.{as_before, forgets, host_noted, host_same, is_step}
use Rattle.node_link.proofs.host.Host.receive.Goals as goal

pub invariant_of-self : goal.invariant_of-self
invariant_of-self g c =
    let i = c.self.inside in let h : Hosted = record { process = i.history.process; node = i.node; outbox = i.outbox; applied = i.applied } in
    host_noted h (Given (Receive c.args.from c.args.message.now)) c.receive.new.self c.in-Ok.sent c.received-self-inside.result.process c.post_all.new.self c.self.invariant
    (is_step i.node (Receive c.args.from c.args.message.now) c.receive.new.self c.in-Ok.sent tt c.in-Ok.ensures.ok) c.received-self-inside.ensures c.post_all.ensures

pub invariant_of-self-then-term-before : goal.invariant_of-self-then-term-before
invariant_of-self-then-term-before g c =
    let i = c.self.inside in let h : Hosted = record { process = i.history.process; node = i.node; outbox = i.outbox; applied = i.applied } in
    let other : c.receive.new.self.term ≢ i.node.term = λ e. absurd (omega (arith, c.if-term-before.true, c.term.ensures, c.term-before.ensures, e)) in
    host_noted h (Given (Receive c.args.from c.args.message.now)) c.receive.new.self [] c.received-self-inside-then-term-before.result.process i.outbox c.self.invariant
    (tt, Forgets, forgets i.node (Receive c.args.from c.args.message.now) c.receive.new.self c.in-Err.ensures.memory other)
    (c.received-self-inside-then-term-before.ensures ∙ ap (λ z. told i.history.process (Given (Receive c.args.from c.args.message.now)) c.receive.new.self z) c.new-none.ensures) refl

pub invariant_of-self-else-term-before : goal.invariant_of-self-else-term-before
invariant_of-self-else-term-before g c =
    let i = c.self.inside in let h : Hosted = record { process = i.history.process; node = i.node; outbox = i.outbox; applied = i.applied } in
    host_same h c.receive.new.self c.self.invariant (as_before i.node (Receive c.args.from c.args.message.now) c.receive.new.self c.in-Err.ensures.memory (omega (arith, c.if-term-before.false, c.term.ensures, c.term-before.ensures)))

pub returns-in-Ok-clause-ok : goal.returns-in-Ok-clause-ok
returns-in-Ok-clause-ok g c =
    let i = c.self.inside in
    subst (λ (z : Hosted). Receives z c.args.from c.args.message.now c.has_grant-granted.result (record { process = c.received-self-inside.result.process; node = c.receive.new.self; outbox = c.post_all.new.self; applied = i.applied })) c.self.view_is
    (record { sent = c.in-Ok.sent; step = c.in-Ok.ensures.ok; noted = record { process = c.received-self-inside.ensures; outbox = c.post_all.ensures; applied = refl } }, c.has_grant-granted.ensures ∙ ap has_grant c.as_slice.ensures)

pub returns-else-term-before-clause-memory : goal.returns-else-term-before-clause-memory
returns-else-term-before-clause-memory g c =
    let i = c.self.inside in
    inl (ap (λ n. record { process = i.history.process; node = n; outbox = i.outbox; applied = i.applied }) (as_before i.node (Receive c.args.from c.args.message.now) c.receive.new.self c.in-Err.ensures.memory (omega (arith, c.if-term-before.false, c.term.ensures, c.term-before.ensures))) ∙ c.self.view_is)
