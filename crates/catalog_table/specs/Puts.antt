-- A row that is registered: as it is made, and as it is put over the row of its key.
use Rattle.std.specs.Prelude.{◌≡◌, ℕ, false, if◌then◌else◌, List, [], ◌∷◌, ◌++◌, Option, Some, None}
use Rattle.std.specs.List.{list_any}
use Rattle.cat_model.specs.Keys.{pair_cmp, same_text}
use Rattle.cat_model.specs.Tables.{put}
use Rattle.cat_model.specs.Same.{alike_nodes, alike_services, alike_checks}
use Rattle.cat_model.specs.Catalog.{service_at, check_at, service_key, check_key}
use Rattle.cat_model.specs.Machine.{put_check}
use Rattle.cat_model.specs.declared.row.NodeRow.{NodeRow}
use Rattle.cat_model.specs.declared.row.ServiceRow.{ServiceRow}
use Rattle.cat_model.specs.declared.row.CheckRow.{CheckRow}
use Rattle.cat_model.specs.declared.command.NewService.{NewService}
use Rattle.cat_model.specs.declared.command.NewCheck.{NewCheck}

abbrev pub made_service : ℕ → List ℕ → NewService → ServiceRow
made_service i node s = record { node = node; id = s.id; name = s.name; tags = s.tags; address = s.address; port = s.port; tag_override = s.tag_override; create = i; modify = i }

abbrev pub made_check : ℕ → List ℕ → NewCheck → CheckRow
made_check i node c = record { node = node; id = c.id; name = c.name; status = c.status; notes = c.notes; output = c.output; service = c.service; create = i; modify = i }

-- one that is equal in all but the positions stays, and one that is written anew keeps the position at which it was made
abbrev pub put_service_over : Option ServiceRow → ServiceRow → List ServiceRow → List ServiceRow
put_service_over None new rows = put pair_cmp service_key new rows
put_service_over (Some old) new rows = if alike_services old new then rows else put pair_cmp service_key (record new { create = old.create }) rows

abbrev pub put_check_over : Option CheckRow → CheckRow → List CheckRow → List CheckRow
put_check_over None new rows = put pair_cmp check_key new rows
put_check_over (Some old) new rows = if alike_checks old new then rows else put pair_cmp check_key (record new { create = old.create }) rows

abbrev pub made_node : ℕ → List ℕ → List ℕ → NodeRow
made_node i node address = record { node = node; address = address; create = i; modify = i }

-- the rows that go and come where a row is put over the one of its key
abbrev pub node_edits : Option NodeRow → NodeRow → List NodeRow
node_edits None new = new ∷ []
node_edits (Some old) new = if alike_nodes old new then [] else old ∷ record new { create = old.create } ∷ []

abbrev pub service_edits : Option ServiceRow → ServiceRow → List ServiceRow
service_edits None new = new ∷ []
service_edits (Some old) new = if alike_services old new then [] else old ∷ record new { create = old.create } ∷ []

abbrev pub check_edits : Option CheckRow → CheckRow → List CheckRow
check_edits None new = new ∷ []
check_edits (Some old) new = if alike_checks old new then [] else old ∷ record new { create = old.create } ∷ []

-- the same of what a registration gives
abbrev pub given_edits : ℕ → List ℕ → Option NewService → List ServiceRow → List ServiceRow
given_edits i node None rows = []
given_edits i node (Some s) rows = service_edits (service_at (node, s.id) rows) (made_service i node s)

abbrev pub checks_edits : ℕ → List ℕ → List NewCheck → List CheckRow → List CheckRow
checks_edits i node [] rows = []
checks_edits i node (c ∷ cs) rows = check_edits (check_at (node, c.id) rows) (made_check i node c) ++ checks_edits i node cs (put_check i node c rows)

-- no two of the checks have one ID
abbrev pub HaveIdsOnce : List NewCheck → Type 0
HaveIdsOnce [] = Unit {0}
HaveIdsOnce (c ∷ cs) = (list_any (λ d. same_text c.id d.id) cs ≡ false) × HaveIdsOnce cs
