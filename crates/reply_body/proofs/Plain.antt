-- The bodies' JSON has no number with a fraction.
use Rattle.std.proofs.Common.{◌≡◌, ◌∙◌, ℕ, List, [], ◌∷◌, Bool, true, false, ◌||◌, ◌==◌, length, Option, Some, None, refl, ap, codes, map, true≢false}
use Rattle.serde_json.specs.Data.{Data, string, array, Members, member, no_members, put}
use Rattle.serde_json.specs.View.{items_of}
use Rattle.serde_json.specs.Written.{has_float, members_have_float, items_have_float}
use Rattle.std.specs.Ordering.{match_ordering, nat_cmp}
use Rattle.std.proofs.Common.{Ordering, Less, Equal, Greater}
use Rattle.std.specs.Cmp.Lexicographic.{slice_cmp}
use Rattle.cat_model.specs.declared.row.KvRow.{KvRow}
use Rattle.cat_model.specs.declared.row.NodeRow.{NodeRow}
use Rattle.cat_model.specs.declared.row.ServiceRow.{ServiceRow}
use Rattle.cat_model.specs.declared.row.SessionRow.{SessionRow}
use Rattle.cat_model.specs.declared.row.QueryRow.{QueryRow}
use Rattle.cat_model.specs.declared.query.CheckView.{CheckView}
use Rattle.cat_model.specs.declared.query.NameTags.{NameTags}
use Rattle.cat_model.specs.declared.query.Instance.{Instance}
use Rattle.cat_model.specs.declared.query.Ran.{Ran}
use Rattle.cat_model.specs.declared.applied.TxnResult.{TxnResult}
use Rattle.cat_model.specs.declared.command.Verb.{Verb}
use Rattle.reply_body.specs.Bodies.{row_data, rows_data, value_data, session_member}
use Rattle.row_objects.specs.Objects.{names_data, node_data, service_data, instance_data, check_data, health_data}
use Rattle.reply_body.specs.Rows.{session_data, query_data, put_each, by_name, services_data, node_view_data}
use Rattle.reply_body.specs.Others.{ran_data, delay_data}
use Rattle.reply_body.specs.Writes.{id_data, shown_row, result_data, results_data, failure_data}

-- a list whose items have none
pub items_plain : {A : Type 0} (f : A → Data) → ((x : A) → has_float (f x) ≡ false) → (xs : List A) → items_have_float (items_of (map f xs)) ≡ false
items_plain f each [] = refl
items_plain f each (x ∷ xs) = rw (each x, items_plain f each xs) refl

value_plain : (value : List ℕ) → (b : Bool) → (length value == 0) ≡ b → has_float (value_data value) ≡ false
value_plain value true e = rw e refl
value_plain value false e = rw e refl

session_plain : (session : Option ℕ) (value : List ℕ) → members_have_float (session_member session (member (codes "Value") (value_data value) no_members)) ≡ false
session_plain None value = rw (value_plain value _ refl) refl
session_plain (Some id) value = rw (value_plain value _ refl) refl

row_plain : (row : KvRow) → has_float (row_data row) ≡ false
unfolding row_data
row_plain row = session_plain row.session row.value

pub rows_plain : (rows : List KvRow) → has_float (rows_data rows) ≡ false
unfolding rows_data
rows_plain rows = items_plain row_data row_plain rows

pub names_plain : (names : List (List ℕ)) → has_float (names_data names) ≡ false
unfolding names_data
names_plain names = items_plain string (λ x. refl) names

pub id_plain : (id : ℕ) → has_float (id_data id) ≡ false
unfolding id_data
id_plain id = refl

pub failure_plain : (op : ℕ) (v : Verb) → has_float (failure_data op v) ≡ false
unfolding failure_data
failure_plain op v = refl

result_plain : (r : TxnResult) → has_float (result_data r) ≡ false
unfolding result_data
result_plain r = rw (row_plain (shown_row r)) refl

pub results_plain : (results : List TxnResult) → has_float (results_data results) ≡ false
unfolding results_data
results_plain results = rw (items_plain result_data result_plain results) refl

pub node_plain : (row : NodeRow) → has_float (node_data row) ≡ false
unfolding node_data
node_plain row = refl

pub service_plain : (row : ServiceRow) → has_float (service_data row) ≡ false
unfolding service_data
service_plain row = rw (names_plain row.tags) refl

pub instance_plain : (x : Instance) → has_float (instance_data x) ≡ false
unfolding instance_data
instance_plain x = rw (names_plain x.service.tags) refl

pub check_plain : (x : CheckView) → has_float (check_data x) ≡ false
unfolding check_data
check_plain x = refl

pub health_plain : (x : Instance) → has_float (health_data x) ≡ false
unfolding health_data
health_plain x = rw (items_plain check_data check_plain x.checks, node_plain x.node, service_plain x.service) refl

pub session_row_plain : (row : SessionRow) → has_float (session_data row) ≡ false
unfolding session_data
session_row_plain row = rw (names_plain row.checks) refl

pub query_plain : (row : QueryRow) → has_float (query_data row) ≡ false
unfolding query_data
query_plain row = rw (names_plain row.tags) refl

-- a member put among others
placed_plain : (o : Ordering) (a b c : Members) → members_have_float a ≡ false → members_have_float b ≡ false → members_have_float c ≡ false → members_have_float (match_ordering o a b c) ≡ false
placed_plain Less a b c x y z = x
placed_plain Equal a b c x y z = y
placed_plain Greater a b c x y z = z

either_plain : (a b : Bool) → (a || b) ≡ false → (a ≡ false) × (b ≡ false)
either_plain false b e = (refl, e)
either_plain true b e = absurd (true≢false e)

both_plain : (a b : Bool) → a ≡ false → b ≡ false → (a || b) ≡ false
both_plain a b e f = ap (λ x. x || b) e ∙ f

put_plain : (k : List ℕ) (d : Data) (ms : Members) → has_float d ≡ false → members_have_float ms ≡ false → members_have_float (put k d ms) ≡ false
put_plain k d no_members x y = both_plain _ _ x refl
put_plain k d (member l e ms) x y =
    let parts = either_plain (has_float e) (members_have_float ms) y in
    placed_plain (slice_cmp nat_cmp k l) (member k d (member l e ms)) (member l d ms) (member l e (put k d ms)) (both_plain _ _ x y) (both_plain _ _ x parts.1) (both_plain _ _ parts.0 (put_plain k d ms x parts.1))

each_plain : {A : Type 0} (name : A → List ℕ) (f : A → Data) → ((x : A) → has_float (f x) ≡ false) → (xs : List A) (found : Members) → members_have_float found ≡ false → members_have_float (put_each name f xs found) ≡ false
each_plain name f each [] found h = h
each_plain name f each (x ∷ xs) found h = each_plain name f each xs (put (name x) (f x) found) (put_plain (name x) (f x) found (each x) h)

pub services_plain : (rows : List NameTags) → has_float (services_data rows) ≡ false
unfolding services_data by_name
services_plain rows = each_plain (λ x. x.name) (λ x. names_data x.tags) (λ x. names_plain x.tags) rows no_members refl

by_id_plain : (rows : List ServiceRow) → has_float (by_name (λ s. s.id) service_data rows) ≡ false
unfolding by_name
by_id_plain rows = each_plain (λ s. s.id) service_data service_plain rows no_members refl

pub node_view_plain : (row : Option NodeRow) (services : List ServiceRow) → has_float (node_view_data row services) ≡ false
unfolding node_view_data
node_view_plain None services = refl
node_view_plain (Some row) services = rw (node_plain row, by_id_plain services) refl

pub nodes_plain : (rows : List NodeRow) → has_float (array (items_of (map node_data rows))) ≡ false
nodes_plain rows = items_plain node_data node_plain rows

pub checks_plain : (rows : List CheckView) → has_float (array (items_of (map check_data rows))) ≡ false
checks_plain rows = items_plain check_data check_plain rows

pub sessions_plain : (rows : List SessionRow) → has_float (array (items_of (map session_data rows))) ≡ false
sessions_plain rows = items_plain session_data session_row_plain rows

pub queries_plain : (rows : List QueryRow) → has_float (array (items_of (map query_data rows))) ≡ false
queries_plain rows = items_plain query_data query_plain rows

pub instances_plain : (rows : List Instance) → has_float (array (items_of (map instance_data rows))) ≡ false
instances_plain rows = items_plain instance_data instance_plain rows

pub healths_plain : (rows : List Instance) → has_float (array (items_of (map health_data rows))) ≡ false
healths_plain rows = items_plain health_data health_plain rows

pub ran_plain : (ran : Ran) → has_float (ran_data ran) ≡ false
unfolding ran_data
ran_plain ran = rw (healths_plain ran.nodes) refl

pub renewed_plain : (row : SessionRow) → has_float (array (items_of (session_data row ∷ []))) ≡ false
renewed_plain row = sessions_plain (row ∷ [])

pub delay_plain : (op : ℕ) → has_float (delay_data op) ≡ false
unfolding delay_data
delay_plain op = refl
