use Rattle.cluster.proofs.Results.{acted_as}
use Rattle.cluster.proofs.cluster.Cluster.beat.Goals as goal

pub invariant_of-self : goal.invariant_of-self
invariant_of-self g c = (c.beat.ensures c.self.inside.agents c.self.inside.watch c.self.invariant).stands

pub returns-clause-whole : goal.returns-clause-whole
returns-clause-whole g c =
    (acted_as c.self.view_is (c.beat.ensures c.self.inside.agents c.self.inside.watch c.self.invariant)).whole

pub returns-clause-cut : goal.returns-clause-cut
returns-clause-cut g c =
    (acted_as c.self.view_is (c.beat.ensures c.self.inside.agents c.self.inside.watch c.self.invariant)).cut
