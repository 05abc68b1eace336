use Rattle.cluster.proofs.Outs.{collects, collect_stands}
use Rattle.cluster.proofs.cluster.Cluster.collect.Goals as goal

pub invariant_of-self : goal.invariant_of-self
invariant_of-self g c = collect_stands c.self.inside.agents c.self.inside.watch c.self.inside.servers.world c.self.inside.servers.servers c.self.inside.requests c.collect.new.self c.args.number c.collect.result c.collect.ensures c.self.invariant

pub returns : goal.returns
returns g c = collects c.self.inside.agents c.self.inside.watch c.self.inside.servers.world c.self.inside.servers.servers c.self.inside.requests c.collect.new.self c.args.self.now c.args.number c.collect.result c.self.view_is c.collect.ensures
