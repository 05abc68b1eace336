use Rattle.http_exchanges.proofs.MarkLists.{quiet_quiet}
use Rattle.http_front.proofs.Clocks.{all_on_ok}
use Rattle.http_front.proofs.Steps.{both_by, servers_by}
use Rattle.http_front.proofs.cluster.ServingCluster.go_on.Goals as goal

pub returns-in-Ok-clause-quiet : goal.returns-in-Ok-clause-quiet
returns-in-Ok-clause-quiet g c = quiet_quiet _ _ _ c.tick_servers.ensures.quiet c.tick_agents.ensures.quiet

pub returns-in-Ok-clause-ticks : goal.returns-in-Ok-clause-ticks
returns-in-Ok-clause-ticks g c = both_by c.args.ms _ _ _ c.tick_servers.ensures.ticks c.tick_agents.ensures.ticks

pub returns-in-Err-clause-ticks : goal.returns-in-Err-clause-ticks
returns-in-Err-clause-ticks g c = servers_by c.args.ms _ _ c.tick_servers.ensures.ticks

pub returns-in-Ok-clause-all : goal.returns-in-Ok-clause-all
returns-in-Ok-clause-all g c = all_on_ok c.tick_agents.result _ _ c.args.ms _ _ _ c.in-Ok.ensures.each c.tick_agents.ensures.each
