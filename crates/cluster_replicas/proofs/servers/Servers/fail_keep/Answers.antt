use Rattle.std.proofs.Common.{ap, ◌∙◌}
use Rattle.cluster_replicas.specs.Servers.{Servers}
use Rattle.cluster_replicas.proofs.Stepping.{arming_kept}
use Rattle.cluster_replicas.proofs.servers.Servers.fail_keep.Goals as goal

pub invariant_of-self : goal.invariant_of-self
invariant_of-self g c = (arming_kept c.self.inside.world c.args.s c.args.nth c.fail_keep.new.self c.fail_keep.ensures.step c.self.inside.replicas.items c.self.invariant).0

pub returns-clause-servers : goal.returns-clause-servers
returns-clause-servers g c = (arming_kept c.self.inside.world c.args.s c.args.nth c.fail_keep.new.self c.fail_keep.ensures.step c.self.inside.replicas.items c.self.invariant).1 ∙ ap (λ (v : Servers). v.servers) c.self.view_is
