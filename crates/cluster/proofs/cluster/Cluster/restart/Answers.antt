use Rattle.cluster.proofs.Results.{acted_as}
use Rattle.cluster.proofs.cluster.Cluster.restart.Goals as goal

pub restart-requires-clause-awake : goal.restart-requires-clause-awake
restart-requires-clause-awake g c = c.wake_held.ensures.awake c.self.inside.servers.world c.self.inside.servers.servers c.self.invariant

pub restart-requires-clause-stands : goal.restart-requires-clause-stands
restart-requires-clause-stands g c = c.wake_held.ensures.stands c.self.inside.servers.world c.self.inside.servers.servers c.self.invariant

pub invariant_of-self : goal.invariant_of-self
invariant_of-self g c = (c.restart.ensures c.self.inside.agents).stands

pub returns-clause-whole : goal.returns-clause-whole
returns-clause-whole g c = (acted_as c.self.view_is (c.restart.ensures c.self.inside.agents)).whole

pub returns-clause-cut : goal.returns-clause-cut
returns-clause-cut g c = (acted_as c.self.view_is (c.restart.ensures c.self.inside.agents)).cut
