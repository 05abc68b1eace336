use Rattle.std.proofs.Common.{◌+◌, arith, sym}
use Rattle.http_exchanges.specs.Marks.{Servers}
use Rattle.http_exchanges.proofs.MarkLists.{quiet_none, quiet_quiet}
use Rattle.http_front.proofs.Clocks.{each_next, each_none, each_of, later_next, later_none}
use Rattle.http_front.proofs.Steps.{up_to_next, up_to_none, up_to_only}
use Rattle.http_front.proofs.cluster.ServingCluster.tick_servers.Goals as goal

pub loop-server-init : goal.loop-server-init
loop-server-init g c = (quiet_none _, up_to_none Servers c.args.ms _, each_none Servers c.args.ms _, later_none Servers _)

pub loop-server-preserved : goal.loop-server-preserved
loop-server-preserved g c = let whole = rw c.in-Ok.is at c.tick.ensures.wholly in let there = rw c.self.view_is at c.servers-last.ensures in let less = c.loop-server-test.true in (
  quiet_quiet _ _ _ c.loop-server.invariant.0 c.tick.ensures.quiet,
  up_to_next Servers c.loop-server.server c.args.ms _ _ _ c.loop-server.invariant.1 c.tick.ensures.ticks,
  each_next Servers c.loop-server.server c.args.ms _ _ _ (omega (arith, there, less)) c.loop-server.invariant.3 c.loop-server.invariant.2 whole,
  later_next Servers c.loop-server.server _ _ _ c.loop-server.invariant.3 whole.leaves,
)

pub returns-in-Err-clause-quiet : goal.returns-in-Err-clause-quiet
returns-in-Err-clause-quiet g c = quiet_quiet _ _ _ c.loop-server.invariant.0 c.tick.ensures.quiet

pub returns-in-Err-clause-ticks : goal.returns-in-Err-clause-ticks
returns-in-Err-clause-ticks g c = up_to_only Servers (c.loop-server.server + 1) c.args.ms _ _ (up_to_next Servers c.loop-server.server c.args.ms _ _ _ c.loop-server.invariant.1 c.tick.ensures.ticks)

pub returns-clause-ticks : goal.returns-clause-ticks
returns-clause-ticks g c = up_to_only Servers c.loop-server.server c.args.ms _ _ c.loop-server.invariant.1

pub returns-clause-each : goal.returns-clause-each
returns-clause-each g c = each_of Servers c.loop-server.server c.servers-last.result _ c.args.ms _ _ (let there = rw c.self.view_is at c.servers-last.ensures in sym there) (omega arith) c.loop-server.invariant.2
