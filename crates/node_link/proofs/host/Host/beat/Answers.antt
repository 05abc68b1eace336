use Rattle.raft_model.specs.Rules.{Beat}
use Rattle.raft_model.specs.Step.{Works}
use Rattle.node_journals.specs.Journals.{Given}
use Rattle.node_link.specs.Hosts.{Hosted}
use Rattle.node_link.proofs.Hosting.{host_noted}
use Rattle.node_link.proofs.host.Host.beat.Goals as goal

pub invariant_of-self-2 : goal.invariant_of-self-2
invariant_of-self-2 g c =
    let i = c.self.inside in let h : Hosted = record { process = i.history.process; node = i.node; outbox = i.outbox; applied = i.applied } in
    host_noted h (Given Beat) c.beat.new.self c.in_ok-sent.sent c.then-self-inside.result.process c.post_all.new.self c.self.invariant
    (tt, Works, c.in_ok-sent.ensures.ok) c.then-self-inside.ensures c.post_all.ensures
