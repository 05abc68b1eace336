use Rattle.http_front.proofs.Agreeing.{agreed_is}
use Rattle.http_front.proofs.cluster.ServingCluster.agreed.Goals as goal

pub returns : goal.returns
returns g c = record { log = rw (← c.self.view_is, c.agreed.ensures) (agreed_is _ _ c.self.invariant) }
