use Rattle.cluster.proofs.Results.{acted_as}
use Rattle.cluster.proofs.cluster.Cluster.fail_keep.Goals as goal

pub invariant_of-self : goal.invariant_of-self
invariant_of-self g c = (c.fail_keep.ensures c.self.inside.agents c.self.inside.watch c.self.invariant).stands

pub returns : goal.returns
returns g c = (acted_as c.self.view_is (c.fail_keep.ensures c.self.inside.agents c.self.inside.watch c.self.invariant)).whole
