use Rattle.http_front.proofs.Steps.{settle_serves, settles, settles_all, settles_still}
use Rattle.http_front.proofs.cluster.ServingCluster.deliver.Goals as goal

pub invariant_of-self : goal.invariant_of-self
invariant_of-self g c = settle_serves _ c.args.most _ _ c.settle.result c.self.invariant c.settle.ensures.whole c.settle.ensures.cut

pub returns-clause-quiet : goal.returns-clause-quiet
returns-clause-quiet g c = rw (← c.self.view_is) (settles c.args.most _ _ c.settle.result c.settle.ensures.whole c.settle.ensures.cut)

pub returns-clause-unticked : goal.returns-clause-unticked
returns-clause-unticked g c = rw (← c.self.view_is) (settles_still c.args.most _ _ c.settle.result c.settle.ensures.whole c.settle.ensures.cut)

pub returns-clause-delivered : goal.returns-clause-delivered
returns-clause-delivered g c = rw (← c.self.view_is) (settles_all c.args.most _ _ c.settle.result c.settle.ensures.whole)
