use Rattle.std.proofs.Common.{[], ap, refl, sym, ◌∙◌}
use Rattle.raft_model.specs.Rules.{Propose}
use Rattle.raft_model.specs.Step.{LogFails, Works}
use Rattle.node_journals.specs.Journals.{Given}
use Rattle.node_link.specs.Hosts.{Hosted, told}
use Rattle.node_link.proofs.Hosting.{halted_in, host_noted}
use Rattle.node_link.proofs.host.Host.propose.Goals as goal

pub invariant_of-self : goal.invariant_of-self
invariant_of-self g c =
    let i = c.self.inside in let h : Hosted = record { process = i.history.process; node = i.node; outbox = i.outbox; applied = i.applied } in
    host_noted h (Given (Propose 0 c.args.command)) c.propose.new.self c.in-Ok.sent c.then-self-inside.result.process c.post_all.new.self c.self.invariant
    (refl, Works, c.in-Ok.ensures.1)
    (c.then-self-inside.ensures ∙ ap (λ m. told i.history.process (Given (Propose 0 m)) c.propose.new.self c.in-Ok.sent) c.of.ensures) c.post_all.ensures

pub invariant_of-self-then-not-halted : goal.invariant_of-self-then-not-halted
invariant_of-self-then-not-halted g c =
    let i = c.self.inside in let h : Hosted = record { process = i.history.process; node = i.node; outbox = i.outbox; applied = i.applied } in
    let step = halted_in i.node c.args.command c.propose.new.self c.in-Err.fault c.in-Err.ensures (sym c.halted-halted.ensures ∙ c.if-not-halted.true) (sym c.halted.ensures ∙ c.if-halted.true) in
    host_noted h (Given (Propose 0 c.args.command)) c.propose.new.self [] c.then-self-inside-then-not-halted.result.process i.outbox c.self.invariant
    (refl, LogFails, step)
    (c.then-self-inside-then-not-halted.ensures ∙ ap (λ z. told i.history.process (Given (Propose 0 c.of.result.value)) c.propose.new.self z) c.new-none.ensures ∙ ap (λ m. told i.history.process (Given (Propose 0 m)) c.propose.new.self []) c.of.ensures) refl
