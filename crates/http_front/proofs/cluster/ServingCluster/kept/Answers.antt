use Rattle.http_front.proofs.Steps.{kept}
use Rattle.http_front.proofs.cluster.ServingCluster.kept.Goals as goal

pub returns : goal.returns
returns g c = rw (← c.self.view_is) (kept _ _ c.self.invariant)
