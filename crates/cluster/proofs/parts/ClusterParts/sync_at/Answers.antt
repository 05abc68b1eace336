use Rattle.std.proofs.Common.{refl, sym, ◌∙◌}
use Rattle.cluster_order.specs.AgentEvents.{agent_in, event_of_agent}
use Rattle.cluster.specs.Syncing.{own_done}
use Rattle.cluster.proofs.AgentParts.{synced_none}
use Rattle.cluster.proofs.parts.ClusterParts.sync_at.Goals as goal

pub returns-in-Ok-clause-whole : goal.returns-in-Ok-clause-whole
returns-in-Ok-clause-whole g c =
    synced_none c.args.event.now c.args.server (agent_in (event_of_agent c.args.event.now)) c.args.self.now (own_done (event_of_agent c.args.event.now) c.args.self.now) c.do_leaderless.new.self refl refl c.requires.agents
    (sym c.is_ready.ensures ∙ c.if-is_ready.false) c.in-Ok.ensures.ok
