use Rattle.std.proofs.Common.{sym, subst}
use Rattle.cluster_rules.specs.Offices.{looks_on}
use Rattle.cluster_rules.specs.Cluster.{clock_of, server_of}
use Rattle.cluster_replicas.specs.Servers.{Servers}
use Rattle.cluster_works.specs.Standing.{Stands}
use Rattle.cluster_works.proofs.Acting.{stands_officed}
use Rattle.cluster.proofs.cluster.Cluster.propose_reap.Goals as goal

pub invariant_of-self : goal.invariant_of-self
invariant_of-self g c =
    subst (λ (z : Servers). Stands c.self.inside.watch z.world z.servers c.self.inside.requests) (sym c.look.ensures)
    (stands_officed c.self.inside.agents c.self.inside.watch c.args.server (looks_on (clock_of c.self.inside.servers.world c.args.server) (server_of c.self.inside.servers.servers c.args.server).office) c.self.inside.servers.world c.self.inside.servers.servers c.self.inside.requests c.self.invariant)
