use Rattle.run_rules.proofs.Serving.{agent_ticked_on, ticked_on}
use Rattle.run_rules.proofs.serving_laws.ticks_serve.Goals as goal

pub returns-clause-servers : goal.returns-clause-servers
returns-clause-servers c = ticked_on

pub returns-clause-agents : goal.returns-clause-agents
returns-clause-agents c = agent_ticked_on
