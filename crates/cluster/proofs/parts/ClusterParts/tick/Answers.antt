use Rattle.cluster.proofs.Clocks.{tick_goes_on}
use Rattle.cluster.proofs.parts.ClusterParts.tick.Goals as goal

pub invariant_of-self : goal.invariant_of-self
invariant_of-self g c =
    (tick_goes_on c.self.inside.agents c.self.inside.watch c.args.server c.args.ms c.self.inside.servers.world c.tick.new.self.world c.self.inside.servers.servers c.tick.new.self.servers c.self.inside.requests c.args.self.now
    c.self.invariant c.self.view_is c.tick.ensures.servers c.tick.ensures.step).0

pub returns : goal.returns
returns g c =
    (tick_goes_on c.self.inside.agents c.self.inside.watch c.args.server c.args.ms c.self.inside.servers.world c.tick.new.self.world c.self.inside.servers.servers c.tick.new.self.servers c.self.inside.requests c.args.self.now
    c.self.invariant c.self.view_is c.tick.ensures.servers c.tick.ensures.step).1
