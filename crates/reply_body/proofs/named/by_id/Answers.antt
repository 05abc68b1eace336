use Rattle.std.proofs.Common.{◌≡◌, ◌∙◌, ap, string_bytes}
use Rattle.std.proofs.lemmas.List.{take_all}
use Rattle.serde_json.specs.Data.{object, no_members}
use Rattle.serde_json.specs.View.{members_view}
use Rattle.serde_json.proofs.Views.{view-Object}
use Rattle.cat_model.specs.declared.row.ServiceRow.{ServiceRow}
use Rattle.row_objects.specs.Objects.{service_data}
use Rattle.reply_body.specs.Rows.{by_name, put_each}
use Rattle.reply_body.proofs.Items.{next_member}
use Rattle.reply_body.proofs.named.by_id.Goals as goal

pub loop-row-preserved : goal.loop-row-preserved
loop-row-preserved c =
    let key : string_bytes c.in_ok-id.id ≡ c.row-item.result.id = c.in_ok-id.ensures.ok ∙ c.as_str.ensures in
    ap members_view c.in_ok-insert.ensures.entries
    ∙ next_member (λ (s : ServiceRow). s.id) service_data c.loop-row.members.entries c.in_ok-id.id c.in_ok-service.service c.args.rows.now c.loop-row.row-index c.row-item.result c.loop-row-test.true c.row-item.is key c.in_ok-service.ensures c.loop-row.invariant

pub returns : goal.returns
unfolding by_name
returns c = view-Object c.loop-row.members ∙ ap object (c.loop-row.invariant ∙ ap (λ l. put_each (λ (s : ServiceRow). s.id) service_data l no_members) (take_all c.loop-row.row-index c.args.rows.now c.loop-row-test.false))
