use Rattle.std.proofs.Common.{subst}
use Rattle.cluster_requests.specs.Ordered.{IsOrdered}
use Rattle.cluster_requests.proofs.Ordering.{front_ordered}
use Rattle.cluster_requests.proofs.outs.take_back.Goals as goal

pub returns-clause-ordered : goal.returns-clause-ordered
returns-clause-ordered c = front_ordered c.pop.new.self.items _ (subst IsOrdered c.pop.ensures.items c.requires.ordered)
