use Rattle.std.proofs.Common.{◌≡◌, map, rules, subst, sym}
use Rattle.cluster_rules.specs.Agents.{noted_check}
use Rattle.agent_state.specs.Order.{ChecksAscend}
use Rattle.agent_state.proofs.Orders.{noted_ascend}
use Rattle.agent_state.proofs.agent.Agent.mark.Goals as goal

pub invariant_of-self : goal.invariant_of-self
invariant_of-self c =
    let checks = c.self.inside.checks.items in
    let same : c.replace_all.new.items.items ≡ map (noted_check c.args.id.now c.args.status c.args.output.now c.self.inside.clock) checks = search rules in (
      c.self.invariant.0,
      subst ChecksAscend (sym same) (noted_ascend c.args.id.now c.args.status c.args.output.now c.self.inside.clock checks c.self.invariant.1),
    )
