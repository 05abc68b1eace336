use Rattle.std.proofs.Common.{◌≡◌, length}
use Rattle.serde_json.specs.View.{members_view}
use Rattle.cat_model.specs.declared.query.CheckView.{CheckView}
use Rattle.cluster_rules.specs.AgentBodies.{by_name, check_data}
use Rattle.agent_state.proofs.Members.{named_onto}
use Rattle.agent_state.proofs.named.checks_json.Given as goal

abbrev pub invariant-loop-item : goal.invariant-loop-item
invariant-loop-item l = named_onto (λ (x : CheckView). x.row.id) check_data l.left (members_view l.members.entries) ≡ by_name (λ (x : CheckView). x.row.id) check_data l.fn.checks

abbrev pub decreases-loop-item : goal.decreases-loop-item
decreases-loop-item l = length l.left
