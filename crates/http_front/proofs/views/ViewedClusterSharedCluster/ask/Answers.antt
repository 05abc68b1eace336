use Rattle.http_front.proofs.Agreeing.{behind_still}
use Rattle.http_front.proofs.views.ViewedClusterSharedCluster.ask.Goals as goal

pub invariant_of-self : goal.invariant_of-self
invariant_of-self g c = behind_still _ _ _ _ c.self.invariant c.ask_agent-asked.ensures.unticked
