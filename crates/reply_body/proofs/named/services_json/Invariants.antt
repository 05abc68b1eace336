use Rattle.std.proofs.Common.{◌≡◌, take}
use Rattle.serde_json.specs.Data.{no_members}
use Rattle.serde_json.specs.View.{members_view}
use Rattle.cat_model.specs.declared.query.NameTags.{NameTags}
use Rattle.row_objects.specs.Objects.{names_data}
use Rattle.reply_body.specs.Rows.{put_each}
use Rattle.reply_body.proofs.named.services_json.Given as goal

abbrev pub invariant-loop-row : goal.invariant-loop-row
invariant-loop-row l = members_view l.members.entries ≡ put_each (λ (x : NameTags). x.name) (λ (x : NameTags). names_data x.tags) (take l.row-index l.rows) no_members
