use Rattle.std.proofs.Common.{◌≡◌, ◌∙◌, ap, string_bytes}
use Rattle.std.proofs.lemmas.List.{take_all}
use Rattle.serde_json.specs.Data.{object, no_members}
use Rattle.serde_json.specs.View.{members_view}
use Rattle.serde_json.proofs.Views.{view-Object}
use Rattle.cat_model.specs.declared.query.NameTags.{NameTags}
use Rattle.row_objects.specs.Objects.{names_data}
use Rattle.reply_body.specs.Rows.{by_name, services_data, put_each}
use Rattle.reply_body.proofs.Items.{next_member}
use Rattle.reply_body.proofs.named.services_json.Goals as goal

pub loop-row-preserved : goal.loop-row-preserved
loop-row-preserved c =
    let key : string_bytes c.in_ok-name.name ≡ c.row-item.result.name = c.in_ok-name.ensures.ok ∙ c.as_str.ensures in
    ap members_view c.in_ok-insert.ensures.entries
    ∙ next_member (λ (x : NameTags). x.name) (λ (x : NameTags). names_data x.tags) c.loop-row.members.entries c.in_ok-name.name c.in_ok-tags.tags c.args.rows.now c.loop-row.row-index c.row-item.result c.loop-row-test.true c.row-item.is key (c.in_ok-tags.ensures ∙ ap names_data c.as_slice.ensures) c.loop-row.invariant

pub returns : goal.returns
unfolding services_data by_name
returns c = view-Object c.loop-row.members ∙ ap object (c.loop-row.invariant ∙ ap (λ l. put_each (λ (x : NameTags). x.name) (λ (x : NameTags). names_data x.tags) l no_members) (take_all c.loop-row.row-index c.args.rows.now c.loop-row-test.false))
