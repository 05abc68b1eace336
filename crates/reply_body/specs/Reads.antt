-- What the answers to reads show: Consul's HTTP API version 1, the endpoints of the catalog, the KV store, health,
-- sessions and prepared queries.
use Rattle.std.specs.Prelude.{ℕ, ◌==◌, ◌&&◌, not, Bool, true, false, if◌then◌else◌, List, [], ◌∷◌, length, map, codes}
use Rattle.serde_json.specs.Data.{Data, array}
use Rattle.serde_json.specs.View.{items_of}
use Rattle.cat_model.specs.Keys.{is_empty}
use Rattle.cat_model.specs.declared.row.KvRow.{KvRow}
use Rattle.cat_model.specs.declared.query.Instance.{Instance}
use Rattle.cat_model.specs.declared.query.Query.{Query}
use Rattle.cat_model.specs.declared.query.Query.TheVariants as q
use Rattle.cat_model.specs.declared.query.Answer.{Answer}
use Rattle.cat_model.specs.declared.query.Answer.TheVariants as a
use Rattle.cat_model.specs.declared.reply.Form.TheVariants.{Octets}
use Rattle.reply_body.specs.Bodies.{json, plain, rows_data}
use Rattle.reply_body.specs.declared.shown.Shown.{Shown}
use Rattle.row_objects.specs.Objects.{names_data, node_data, instance_data, check_data, health_data}
use Rattle.reply_body.specs.Rows.{session_data, query_data, services_data, node_view_data}

-- rows of keys: where there are none, there is nothing to show
abbrev pub shown_rows : List KvRow → Shown
shown_rows [] = plain 404 []
shown_rows (r ∷ rows) = json 200 (rows_data (r ∷ rows))

-- the bytes of a value; none are a plain text, as any empty body is
abbrev pub shown_bytes : List ℕ → Shown
shown_bytes value = if length value == 0 then plain 200 [] else record { status = 200; body = value; form = Octets }

-- the bytes of the value of the one row
abbrev pub shown_value : List KvRow → Shown
shown_value [] = plain 404 []
shown_value (r ∷ rows) = shown_bytes r.value

abbrev pub has_none : List (List ℕ) → Bool
has_none [] = true
has_none (n ∷ names) = false

-- the names of keys: where there are none, there is nothing to show below any other prefix than the empty one
abbrev pub shown_names : List ℕ → List (List ℕ) → Shown
shown_names prefix names = if has_none names && not (is_empty prefix) then plain 404 [] else json 200 (names_data names)

-- a read of one key, with its row or the bytes of its value
abbrev pub shown_key : Bool → Answer → Shown
shown_key true (a.Rows rows) = shown_value rows
shown_key false (a.Rows rows) = shown_rows rows
shown_key raw other = plain 404 []

abbrev pub shown_tree : Answer → Shown
shown_tree (a.Rows rows) = shown_rows rows
shown_tree other = plain 404 []

abbrev pub shown_listing : List ℕ → Answer → Shown
shown_listing prefix (a.Names names) = shown_names prefix names
shown_listing prefix other = plain 404 []

-- A list is shown also where it is empty. There is one datacenter.
abbrev pub listed : {A : Type 0} → (A → Data) → List A → Shown
listed f xs = json 200 (array (items_of (map f xs)))

-- the answers that a query's name alone tells how to show
abbrev pub shown_instances : (Instance → Data) → Answer → Shown
shown_instances f (a.Instances xs) = listed f xs
shown_instances f other = plain 404 []

abbrev pub shown_other : Answer → Shown
shown_other (a.Nodes rows) = listed node_data rows
shown_other (a.Services rows) = json 200 (services_data rows)
shown_other (a.NodeView row services) = json 200 (node_view_data row services)
shown_other (a.Checks rows) = listed check_data rows
shown_other (a.Sessions rows) = listed session_data rows
shown_other (a.Queries rows) = listed query_data rows
shown_other a.Absent = plain 404 (codes "Query not found")
shown_other other = plain 404 []

-- what the answer to a read shows
abbrev pub shown_read : Query → Bool → Answer → Shown
shown_read (q.Key key) raw answer = shown_key raw answer
shown_read (q.Prefix prefix) raw answer = shown_tree answer
shown_read (q.Keys prefix separator) raw answer = shown_listing prefix answer
shown_read (q.Service name tags) raw answer = shown_instances instance_data answer
shown_read (q.HealthService name tags passing) raw answer = shown_instances health_data answer
shown_read other raw answer = shown_other answer
