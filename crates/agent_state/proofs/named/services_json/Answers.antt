use Rattle.std.proofs.Common.{◌≡◌, ◌∙◌, ap, string_bytes}
use Rattle.serde_json.specs.Data.{object}
use Rattle.serde_json.specs.View.{members_view}
use Rattle.serde_json.proofs.Views.{view-Object}
use Rattle.cat_model.specs.declared.row.ServiceRow.{ServiceRow}
use Rattle.cluster_rules.specs.AgentBodies.{by_name, service_data}
use Rattle.agent_state.proofs.Members.{named_onto, named_onto_none, named_last, named_all}
use Rattle.agent_state.proofs.named.services_json.Goals as goal

pub loop-row-init : goal.loop-row-init
loop-row-init c =
    ap (λ es. named_onto (λ (s : ServiceRow). s.id) service_data c.args.rows.now (members_view es)) c.new-members.ensures.empty ∙ named_onto_none (λ (s : ServiceRow). s.id) service_data c.args.rows.now

pub loop-row-preserved : goal.loop-row-preserved
loop-row-preserved c =
    let key : string_bytes c.in_ok-id.id ≡ c.in-Some.row.now.id = c.in_ok-id.ensures.ok ∙ c.as_str.ensures in
    ap (λ es. named_onto (λ (s : ServiceRow). s.id) service_data c.in-Some.before.now (members_view es)) c.in_ok-insert.ensures.entries
    ∙ named_last (λ (s : ServiceRow). s.id) service_data c.loop-row.members.entries c.in_ok-id.id c.in_ok-service.service c.loop-row.left.now c.in-Some.before.now c.in-Some.row.now (by_name (λ (s : ServiceRow). s.id) service_data c.args.rows.now) c.in-Some.ensures.cases.0 key c.in_ok-service.ensures c.loop-row.invariant

pub returns : goal.returns
returns c =
    view-Object c.loop-row.members
    ∙ ap object (named_all (λ (s : ServiceRow). s.id) service_data c.loop-row.left.now (members_view c.loop-row.members.entries) (by_name (λ (s : ServiceRow). s.id) service_data c.args.rows.now) c.in_default.ensures.cases c.loop-row.invariant)
