use Rattle.std.proofs.Common.{ap, ◌∙◌}
use Rattle.cluster_replicas.specs.Servers.{Servers}
use Rattle.cluster_replicas.proofs.Stepping.{probe_kept}
use Rattle.cluster_replicas.proofs.servers.Servers.probe.Goals as goal

pub invariant_of-self : goal.invariant_of-self
invariant_of-self g c = (probe_kept c.probe.result c.self.inside.world c.args.s c.probe.new.self c.probe.ensures.ok c.probe.ensures.err c.self.inside.replicas.items c.self.invariant).0

pub returns-clause-servers : goal.returns-clause-servers
returns-clause-servers g c = (probe_kept c.probe.result c.self.inside.world c.args.s c.probe.new.self c.probe.ensures.ok c.probe.ensures.err c.self.inside.replicas.items c.self.invariant).1 ∙ ap (λ (v : Servers). v.servers) c.self.view_is
