use Rattle.cluster.proofs.Outs.{takes}
use Rattle.cluster.proofs.cluster.Cluster.next_out.Goals as goal

pub returns : goal.returns
returns g c = takes c.self.inside.agents c.self.inside.watch c.self.inside.servers.world c.self.inside.servers.servers c.self.inside.requests c.next_out.new.self c.args.self.now c.next_out.result c.self.view_is c.next_out.ensures.none c.next_out.ensures.some
