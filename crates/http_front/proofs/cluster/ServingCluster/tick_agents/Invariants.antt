use Rattle.std.proofs.Common.{◌-◌, reverse}
use Rattle.http_exchanges.specs.Marks.{AddsQuiet, Agents}
use Rattle.http_front.specs.Ticks.{LeavesLater, TicksEach, TicksUpTo}
use Rattle.http_front.proofs.cluster.ServingCluster.tick_agents.Given as goal

abbrev pub invariant-loop-agent : goal.invariant-loop-agent
invariant-loop-agent g l =
    AddsQuiet (reverse l.fn.self.past) (reverse l.self.past) × TicksUpTo Agents l.agent l.ms (reverse l.fn.self.past) (reverse l.self.past)
    × TicksEach Agents l.agent l.ms l.fn.self l.self × LeavesLater Agents l.agent l.fn.self l.self

abbrev pub decreases-loop-agent : goal.decreases-loop-agent
decreases-loop-agent g l = l.last - l.agent
