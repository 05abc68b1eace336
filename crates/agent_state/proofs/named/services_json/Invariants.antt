use Rattle.std.proofs.Common.{◌≡◌, length}
use Rattle.serde_json.specs.View.{members_view}
use Rattle.cat_model.specs.declared.row.ServiceRow.{ServiceRow}
use Rattle.cluster_rules.specs.AgentBodies.{by_name, service_data}
use Rattle.agent_state.proofs.Members.{named_onto}
use Rattle.agent_state.proofs.named.services_json.Given as goal

abbrev pub invariant-loop-row : goal.invariant-loop-row
invariant-loop-row l = named_onto (λ (s : ServiceRow). s.id) service_data l.left (members_view l.members.entries) ≡ by_name (λ (s : ServiceRow). s.id) service_data l.fn.rows

abbrev pub decreases-loop-row : goal.decreases-loop-row
decreases-loop-row l = length l.left
