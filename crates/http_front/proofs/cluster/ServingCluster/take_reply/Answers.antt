use Rattle.http_front.proofs.Steps.{collect_leaves, collect_serves, collects, is_open}
use Rattle.http_front.proofs.cluster.ServingCluster.take_reply.Goals as goal

pub shared-requires : goal.shared-requires
shared-requires g c = is_open _ c.args.number _ _ c.collect-collected.result c.self.invariant c.collect-collected.ensures

pub invariant_of-self : goal.invariant_of-self
invariant_of-self g c = collect_serves _ c.args.number _ _ c.collect-collected.result c.self.invariant c.collect-collected.ensures

pub returns-clause-got : goal.returns-clause-got
returns-clause-got g c = rw (c.shared.ensures, ← c.self.view_is) (collects _ c.args.number _ _ c.collect-collected.result c.self.invariant c.collect-collected.ensures)

pub returns-clause-world : goal.returns-clause-world
returns-clause-world g c = rw (← c.self.view_is) (collect_leaves c.args.number _ _ c.collect-collected.result c.collect-collected.ensures)
