use Rattle.std.proofs.Common.{ap, sym, ◌∙◌}
use Rattle.cluster_order.specs.AgentEvents.{is_for_agent}
use Rattle.cluster_order.proofs.AgentSteps.{for_agent}
use Rattle.cluster_order.proofs.requests.request.Goals as goal

pub happen-requires-clause-fits : goal.happen-requires-clause-fits
happen-requires-clause-fits g c = c.requires.agent

pub happen-requires-clause-agents : goal.happen-requires-clause-agents
happen-requires-clause-agents g c = for_agent c.args.agent c.args.asked.now c.args.draw (ap is_for_agent (sym c.deref.ensures) ∙ sym c.if-is_for_agent.ensures)

pub happen-requires-clause-takes : goal.happen-requires-clause-takes
happen-requires-clause-takes g c = c.requires.takes

pub ask_servers-requires-clause-agent : goal.ask_servers-requires-clause-agent
ask_servers-requires-clause-agent g c = c.requires.agent

pub ask_servers-requires-clause-takes : goal.ask_servers-requires-clause-takes
ask_servers-requires-clause-takes g c = c.requires.takes

pub ask_servers-requires-clause-plain : goal.ask_servers-requires-clause-plain
ask_servers-requires-clause-plain g c = ap is_for_agent (sym c.deref.ensures) ∙ sym c.if-is_for_agent.ensures

pub returns-then-is_for_agent-clause-whole : goal.returns-then-is_for_agent-clause-whole
returns-then-is_for_agent-clause-whole g c = c.happen.ensures.whole

pub returns-then-is_for_agent-clause-cut : goal.returns-then-is_for_agent-clause-cut
returns-then-is_for_agent-clause-cut g c = c.happen.ensures.cut

pub returns-else-is_for_agent-clause-whole : goal.returns-else-is_for_agent-clause-whole
returns-else-is_for_agent-clause-whole g c = c.ask_servers.ensures.whole

pub returns-else-is_for_agent-clause-cut : goal.returns-else-is_for_agent-clause-cut
returns-else-is_for_agent-clause-cut g c = c.ask_servers.ensures.cut

pub returns-then-is_for_agent-clause-counted : goal.returns-then-is_for_agent-clause-counted
returns-then-is_for_agent-clause-counted g c =
    c.happen.ensures.counted

pub returns-else-is_for_agent-clause-counted : goal.returns-else-is_for_agent-clause-counted
returns-else-is_for_agent-clause-counted g c =
    c.ask_servers.ensures.counted
