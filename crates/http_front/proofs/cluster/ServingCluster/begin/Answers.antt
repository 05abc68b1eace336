use Rattle.std.proofs.Common.{sym}
use Rattle.http_front.proofs.Steps.{begun_serves, begun_unasked}
use Rattle.http_front.proofs.cluster.ServingCluster.begin.Goals as goal

pub invariant_of-result : goal.invariant_of-result
invariant_of-result g c = begun_serves _ g.J.ClusterSize.size c.args.most _ _ c.in-Ok.field-0 (sym c.requires.size) c.in_ok-cluster.ensures.serves (rw c.in-Ok.is at c.settle.ensures.whole)

pub returns-in-Ok-clause-unasked : goal.returns-in-Ok-clause-unasked
returns-in-Ok-clause-unasked g c = begun_unasked c.args.most _ _ c.in-Ok.field-0 c.in_ok-cluster.ensures.unasked (rw c.in-Ok.is at c.settle.ensures.whole)
