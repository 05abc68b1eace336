use Rattle.std.proofs.Common.{◌-◌, reverse}
use Rattle.http_exchanges.specs.Marks.{AddsQuiet, Servers}
use Rattle.http_front.specs.Ticks.{LeavesLater, TicksEach, TicksUpTo}
use Rattle.http_front.proofs.cluster.ServingCluster.tick_servers.Given as goal

abbrev pub invariant-loop-server : goal.invariant-loop-server
invariant-loop-server g l =
    AddsQuiet (reverse l.fn.self.past) (reverse l.self.past) × TicksUpTo Servers l.server l.ms (reverse l.fn.self.past) (reverse l.self.past)
    × TicksEach Servers l.server l.ms l.fn.self l.self × LeavesLater Servers l.server l.fn.self l.self

abbrev pub decreases-loop-server : goal.decreases-loop-server
decreases-loop-server g l = l.last - l.server
