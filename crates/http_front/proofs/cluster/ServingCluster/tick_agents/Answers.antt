use Rattle.std.proofs.Common.{◌+◌, arith, sym, ◌∙◌}
use Rattle.http_exchanges.specs.Marks.{Agents}
use Rattle.http_exchanges.proofs.MarkLists.{quiet_none, quiet_quiet}
use Rattle.http_front.proofs.Clocks.{each_next, each_none, each_of, later_next, later_none}
use Rattle.http_front.proofs.Steps.{up_to_next, up_to_none, up_to_only}
use Rattle.http_front.proofs.cluster.ServingCluster.tick_agents.Goals as goal

pub loop-agent-init : goal.loop-agent-init
loop-agent-init g c = (quiet_none _, up_to_none Agents c.args.ms _, each_none Agents c.args.ms _, later_none Agents _)

pub loop-agent-preserved : goal.loop-agent-preserved
loop-agent-preserved g c = let whole = rw c.in-Ok.is at c.tick_agent.ensures.wholly in let there = rw c.self.view_is at c.agents-last.ensures in let less = c.loop-agent-test.true in (
  quiet_quiet _ _ _ c.loop-agent.invariant.0 c.tick_agent.ensures.quiet,
  up_to_next Agents c.loop-agent.agent c.args.ms _ _ _ c.loop-agent.invariant.1 c.tick_agent.ensures.ticks,
  each_next Agents c.loop-agent.agent c.args.ms _ _ _ (omega (arith, there, less)) c.loop-agent.invariant.3 c.loop-agent.invariant.2 whole,
  later_next Agents c.loop-agent.agent _ _ _ c.loop-agent.invariant.3 whole.leaves,
)

pub returns-in-Err-clause-quiet : goal.returns-in-Err-clause-quiet
returns-in-Err-clause-quiet g c = quiet_quiet _ _ _ c.loop-agent.invariant.0 c.tick_agent.ensures.quiet

pub returns-in-Err-clause-ticks : goal.returns-in-Err-clause-ticks
returns-in-Err-clause-ticks g c = up_to_only Agents (c.loop-agent.agent + 1) c.args.ms _ _ (up_to_next Agents c.loop-agent.agent c.args.ms _ _ _ c.loop-agent.invariant.1 c.tick_agent.ensures.ticks)

pub returns-clause-ticks : goal.returns-clause-ticks
returns-clause-ticks g c = up_to_only Agents c.loop-agent.agent c.args.ms _ _ c.loop-agent.invariant.1

pub returns-clause-each : goal.returns-clause-each
returns-clause-each g c = each_of Agents c.loop-agent.agent c.agents-last.result _ c.args.ms _ _ (sym (c.agents-last.ensures ∙ c.self.invariant.count)) (omega arith) c.loop-agent.invariant.2
