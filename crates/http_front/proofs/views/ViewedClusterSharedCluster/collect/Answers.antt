use Rattle.http_exchanges.proofs.Clocks.{collects_still}
use Rattle.http_front.proofs.Agreeing.{behind_still}
use Rattle.http_front.proofs.views.ViewedClusterSharedCluster.collect.Goals as goal

pub invariant_of-self : goal.invariant_of-self
invariant_of-self g c = behind_still _ _ _ _ c.self.invariant (collects_still _ c.args.number c.take_reply.result _ _ c.take_reply.ensures.got)
