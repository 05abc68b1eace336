use Rattle.std.proofs.Common.{ap, ◌∙◌}
use Rattle.cluster_replicas.specs.Servers.{Servers}
use Rattle.cluster_replicas.proofs.Stepping.{loss_kept}
use Rattle.cluster_replicas.proofs.servers.Servers.lose.Goals as goal

pub invariant_of-self : goal.invariant_of-self
invariant_of-self g c = (loss_kept c.self.inside.world c.args.k c.lose.new.self c.lose.ensures.step c.self.inside.replicas.items c.self.invariant).0

pub returns-clause-servers : goal.returns-clause-servers
returns-clause-servers g c = (loss_kept c.self.inside.world c.args.k c.lose.new.self c.lose.ensures.step c.self.inside.replicas.items c.self.invariant).1 ∙ ap (λ (v : Servers). v.servers) c.self.view_is
