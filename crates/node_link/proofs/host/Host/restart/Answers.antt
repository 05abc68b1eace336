use Rattle.std.proofs.Common.{[], ap, refl, ◌∙◌}
use Rattle.node_journals.specs.Journals.{Restart}
use Rattle.node_link.specs.Hosts.{Hosted, told}
use Rattle.node_link.proofs.Hosting.{host_at, host_noted}
use Rattle.node_link.proofs.host.Host.restart.Goals as goal

pub invariant_of-self-2 : goal.invariant_of-self-2
invariant_of-self-2 g c =
    let i = c.self.inside in let h : Hosted = record { process = i.history.process; node = i.node; outbox = i.outbox; applied = i.applied } in
    let new = c.restart.new.self in let process = c.then-self-inside.result.process in
    host_at (record { process = process; node = new; outbox = i.outbox; applied = i.applied }) 0
    (host_noted h Restart new [] process i.outbox c.self.invariant (c.in_ok-restart.ensures.ok, refl)
    (c.then-self-inside.ensures ∙ ap (λ z. told i.history.process Restart new z) c.new-none.ensures) refl)
