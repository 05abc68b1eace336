use Rattle.script_player.proofs.FirstStart.{as_many, first, limited, unarmed}
use Rattle.script_player.proofs.start.start.Goals as goal

pub start-requires-clause-unarmed : goal.start-requires-clause-unarmed
start-requires-clause-unarmed g c = unarmed c.in_ok-stores.stores c.in_ok-stores.ensures.empty

pub start-requires-clause-limits : goal.start-requires-clause-limits
start-requires-clause-limits g c = limited c.in_ok-stores.stores c.in_ok-stores.ensures.empty

pub returns-in-Ok-clause-first : goal.returns-in-Ok-clause-first
returns-in-Ok-clause-first g c = first c.in_ok-stores.stores (g.S.ClusterInterface.state c.in-Ok.servers) c.in_ok-stores.ensures.empty c.in-Ok.ensures.begun

pub returns-in-Ok-clause-servers : goal.returns-in-Ok-clause-servers
returns-in-Ok-clause-servers g c = as_many c.in_ok-stores.stores (g.S.ClusterInterface.state c.in-Ok.servers) c.args.opening.servers c.in_ok-stores.ensures.count c.in-Ok.ensures.begun
