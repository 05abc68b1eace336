use Rattle.cluster_replicas.proofs.Placed.{behind}
use Rattle.cluster_replicas.proofs.servers.Servers.stays_behind.Goals as goal

pub returns : goal.returns
returns g c = behind c.self.inside.world c.self.inside.replicas.items c.args.self.now c.self.view_is c.self.invariant c.commits_within.ensures c.args.s c.requires
