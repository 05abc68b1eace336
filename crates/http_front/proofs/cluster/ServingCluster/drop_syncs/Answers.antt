use Rattle.http_front.proofs.Steps.{sifts_past, sifts_serves, sifts_world}
use Rattle.http_front.proofs.cluster.ServingCluster.drop_syncs.Goals as goal

pub invariant_of-self : goal.invariant_of-self
invariant_of-self g c = sifts_serves _ _ _ c.self.invariant c.drop_syncs_from.ensures

pub returns-clause-past : goal.returns-clause-past
returns-clause-past g c = rw (← c.self.view_is) (sifts_past _ _ c.drop_syncs_from.ensures)

pub returns-clause-world : goal.returns-clause-world
returns-clause-world g c = rw (← c.self.view_is) (sifts_world _ _ c.drop_syncs_from.ensures)
