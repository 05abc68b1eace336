use Rattle.std.proofs.Common.{◌≡◌, ◌∙◌, ap, string_bytes}
use Rattle.serde_json.specs.Data.{object}
use Rattle.serde_json.specs.View.{members_view}
use Rattle.serde_json.proofs.Views.{view-Object}
use Rattle.cat_model.specs.declared.query.CheckView.{CheckView}
use Rattle.cluster_rules.specs.AgentBodies.{by_name, check_data}
use Rattle.agent_state.proofs.Members.{named_onto, named_onto_none, named_last, named_all}
use Rattle.agent_state.proofs.named.checks_json.Goals as goal

pub loop-item-init : goal.loop-item-init
loop-item-init c =
    ap (λ es. named_onto (λ (x : CheckView). x.row.id) check_data c.args.checks.now (members_view es)) c.new-members.ensures.empty ∙ named_onto_none (λ (x : CheckView). x.row.id) check_data c.args.checks.now

pub loop-item-preserved : goal.loop-item-preserved
loop-item-preserved c =
    let key : string_bytes c.in_ok-id.id ≡ c.in-Some.item.now.row.id = c.in_ok-id.ensures.ok ∙ c.as_str.ensures in
    ap (λ es. named_onto (λ (x : CheckView). x.row.id) check_data c.in-Some.before.now (members_view es)) c.in_ok-insert.ensures.entries
    ∙ named_last (λ (x : CheckView). x.row.id) check_data c.loop-item.members.entries c.in_ok-id.id c.in_ok-check.check c.loop-item.left.now c.in-Some.before.now c.in-Some.item.now (by_name (λ (x : CheckView). x.row.id) check_data c.args.checks.now) c.in-Some.ensures.cases.0 key c.in_ok-check.ensures c.loop-item.invariant

pub returns : goal.returns
returns c =
    view-Object c.loop-item.members
    ∙ ap object (named_all (λ (x : CheckView). x.row.id) check_data c.loop-item.left.now (members_view c.loop-item.members.entries) (by_name (λ (x : CheckView). x.row.id) check_data c.args.checks.now) c.in_default.ensures.cases c.loop-item.invariant)
