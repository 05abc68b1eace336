use Rattle.std.proofs.Common.{ap, ◌∙◌}
use Rattle.cluster_replicas.specs.Servers.{Servers}
use Rattle.cluster_replicas.proofs.Stepping.{tick_kept}
use Rattle.cluster_replicas.proofs.servers.Servers.tick.Goals as goal

pub invariant_of-self : goal.invariant_of-self
invariant_of-self g c = (tick_kept c.self.inside.world c.args.s c.args.d c.tick.new.self c.tick.ensures.step c.self.inside.replicas.items c.self.invariant).0

pub returns-clause-servers : goal.returns-clause-servers
returns-clause-servers g c = (tick_kept c.self.inside.world c.args.s c.args.d c.tick.new.self c.tick.ensures.step c.self.inside.replicas.items c.self.invariant).1 ∙ ap (λ (v : Servers). v.servers) c.self.view_is
