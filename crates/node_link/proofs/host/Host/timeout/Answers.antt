use Rattle.std.proofs.Common.{[], ap, arith, inl, refl, subst, ◌∙◌, ◌≢◌}
use Rattle.raft_model.specs.Rules.{Timeout}
use Rattle.raft_model.specs.Step.{Forgets}
use Rattle.raft_node.specs.Steps.{Steps}
use Rattle.node_journals.specs.Journals.{Given}
use Rattle.node_link.specs.Hosts.{Hosted, Makes, told}
use Rattle.node_link.proofs.Hosting.{as_before, forgets, host_noted, host_same, is_step}
use Rattle.node_link.proofs.host.Host.timeout.Goals as goal

pub invariant_of-self : goal.invariant_of-self
invariant_of-self g c =
    let i = c.self.inside in let h : Hosted = record { process = i.history.process; node = i.node; outbox = i.outbox; applied = i.applied } in
    host_noted h (Given Timeout) c.timeout.new.self c.in-Ok.sent c.then-self-inside.result.process c.post_all.new.self c.self.invariant
    (is_step i.node Timeout c.timeout.new.self c.in-Ok.sent tt c.in-Ok.ensures.ok) (c.then-self-inside.ensures) c.post_all.ensures

pub invariant_of-self-then-term : goal.invariant_of-self-then-term
invariant_of-self-then-term g c =
    let i = c.self.inside in let h : Hosted = record { process = i.history.process; node = i.node; outbox = i.outbox; applied = i.applied } in
    let other : c.timeout.new.self.term ≢ i.node.term = λ e. absurd (omega (arith, c.if-term.true, c.term.ensures, c.term-term.ensures, e)) in
    host_noted h (Given Timeout) c.timeout.new.self [] c.then-self-inside-then-term.result.process i.outbox c.self.invariant
    (tt, Forgets, forgets i.node Timeout c.timeout.new.self c.in-Err.ensures.memory other)
    (c.then-self-inside-then-term.ensures ∙ ap (λ z. told i.history.process (Given Timeout) c.timeout.new.self z) c.new-none.ensures) refl

pub invariant_of-self-else-term : goal.invariant_of-self-else-term
invariant_of-self-else-term g c =
    let i = c.self.inside in let h : Hosted = record { process = i.history.process; node = i.node; outbox = i.outbox; applied = i.applied } in
    host_same h c.timeout.new.self c.self.invariant (as_before i.node Timeout c.timeout.new.self c.in-Err.ensures.memory (omega (arith, c.if-term.false, c.term.ensures, c.term-term.ensures)))

pub returns-in-Ok-clause-ok : goal.returns-in-Ok-clause-ok
returns-in-Ok-clause-ok g c =
    let i = c.self.inside in
    subst (λ (z : Hosted). Makes Steps z Timeout (record { process = c.then-self-inside.result.process; node = c.timeout.new.self; outbox = c.post_all.new.self; applied = i.applied })) c.self.view_is
    (record { sent = c.in-Ok.sent; step = c.in-Ok.ensures.ok; noted = record { process = c.then-self-inside.ensures; outbox = c.post_all.ensures; applied = refl } })

pub returns-else-term-clause-memory : goal.returns-else-term-clause-memory
returns-else-term-clause-memory g c =
    let i = c.self.inside in
    inl (ap (λ n. record { process = i.history.process; node = n; outbox = i.outbox; applied = i.applied }) (as_before i.node Timeout c.timeout.new.self c.in-Err.ensures.memory (omega (arith, c.if-term.false, c.term.ensures, c.term-term.ensures))) ∙ c.self.view_is)
