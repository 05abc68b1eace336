use Rattle.std.proofs.Common.{◌≡◌, map, rules, subst, sym}
use Rattle.cluster_rules.specs.Agents.{expired}
use Rattle.agent_state.specs.Order.{ChecksAscend}
use Rattle.agent_state.proofs.Orders.{expired_ascend}
use Rattle.agent_state.proofs.checks.expire_checks.Goals as goal

pub returns-clause-order : goal.returns-clause-order
returns-clause-order c =
    let same : c.replace_all.new.items.items ≡ map (expired c.args.now) c.args.checks.now.items = search rules in
    subst ChecksAscend (sym same) (expired_ascend c.args.now c.args.checks.now.items c.requires)
