use Rattle.http_front.proofs.Agreeing.{behind_quiet}
use Rattle.http_front.proofs.views.ViewedClusterSharedCluster.settle.Goals as goal

pub invariant_of-self : goal.invariant_of-self
invariant_of-self g c = behind_quiet _ _ _ _ c.self.invariant c.settle.ensures.quiet
