use Rattle.std.proofs.Common.{◌≡◌, take}
use Rattle.serde_json.specs.Data.{no_members}
use Rattle.serde_json.specs.View.{members_view}
use Rattle.cat_model.specs.declared.row.ServiceRow.{ServiceRow}
use Rattle.row_objects.specs.Objects.{service_data}
use Rattle.reply_body.specs.Rows.{put_each}
use Rattle.reply_body.proofs.named.by_id.Given as goal

abbrev pub invariant-loop-row : goal.invariant-loop-row
invariant-loop-row l = members_view l.members.entries ≡ put_each (λ (s : ServiceRow). s.id) service_data (take l.row-index l.rows) no_members
