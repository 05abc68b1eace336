use Rattle.cluster.proofs.Clocks.{lose_stands}
use Rattle.cluster.proofs.parts.ClusterParts.lose.Goals as goal

pub invariant_of-self : goal.invariant_of-self
invariant_of-self g c =
    lose_stands c.self.inside.agents c.self.inside.watch c.args.number c.self.inside.servers.world c.lose.new.self.world c.self.inside.servers.servers c.lose.new.self.servers c.self.inside.requests c.self.invariant c.lose.ensures.servers c.lose.ensures.step
