use Rattle.std.proofs.Common.{sym, ◌∙◌}
use Rattle.cluster_order.specs.AgentEvents.{event_of_agent}
use Rattle.cluster.proofs.AgentParts.{when_err}
use Rattle.cluster.proofs.parts.ClusterParts.do_alone.Goals as goal

pub returns-then-is_err-clause-err : goal.returns-then-is_err-clause-err
returns-then-is_err-clause-err g c =
    c.forget_event.ensures (event_of_agent c.args.event.now) c.args.self.now
    (when_err c.do_noted.result (sym c.is_err.ensures.value ∙ c.if-is_err.true) c.do_noted.ensures.err ∙ c.mark_agents.ensures)
