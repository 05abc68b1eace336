use Rattle.std.proofs.Common.{None, ap, sym, ◌∙◌}
use Rattle.cluster_rules.specs.Proposals.{synced}
use Rattle.cluster_order.specs.AgentEvents.{agent_in, event_of_agent}
use Rattle.cluster.specs.Syncing.{own_done}
use Rattle.cluster.proofs.AgentParts.{own_apart, when_ok}
use Rattle.cluster.proofs.cluster.Cluster.do_leaderless.Goals as goal

pub returns-clause-ok : goal.returns-clause-ok
returns-clause-ok g c =
    let made = event_of_agent c.args.event.now in
    when_ok c.do_own.result (sym c.is_err.ensures.value ∙ c.if-is_err.false) c.do_own.ensures.ok
    ∙ ap (own_done made) (c.in_ok-tell_leaderless.ensures.ok ∙ ap (λ k. synced k None c.args.self.now) c.agent-agent.ensures)
    ∙ own_apart c.args.event.now (agent_in made) None c.args.self.now c.requires.agents
