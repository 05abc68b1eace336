-- Each status is one of HTTP's, a number of three digits.
use Rattle.std.proofs.Common.{◌≤◌, ◌<◌, ℕ, Bool, true, false, List, [], ◌∷◌, ◌==◌, length, arith, Option, Some, None}
use Rattle.std.specs.Prelude.{◌&&◌, not, if◌then◌else◌}
use Rattle.cat_model.specs.Keys.{is_empty}
use Rattle.cat_model.specs.declared.applied.Applied.{Applied}
use Rattle.cat_model.specs.declared.applied.Applied.TheVariants as applied
use Rattle.cat_model.specs.declared.applied.Refuse.{Refuse}
use Rattle.cat_model.specs.declared.applied.Refuse.TheVariants as refuse
use Rattle.cat_model.specs.declared.command.Command.{Command}
use Rattle.cat_model.specs.declared.command.Command.TheVariants as command
use Rattle.cat_model.specs.declared.query.Answer.{Answer}
use Rattle.cat_model.specs.declared.query.Answer.TheVariants as answer
use Rattle.cat_model.specs.declared.query.Query.{Query}
use Rattle.cat_model.specs.declared.query.Query.TheVariants as query
use Rattle.cat_model.specs.declared.reply.Form.TheVariants.{Json, Octets}
use Rattle.cat_model.specs.declared.reply.Refusal.{Refusal}
use Rattle.cat_model.specs.declared.reply.Refusal.TheVariants as refusal
use Rattle.cat_model.specs.declared.row.KvRow.{KvRow}
use Rattle.cluster_rules.specs.Replies as rules
use Rattle.reply_body.specs.Bodies.{json, plain}
use Rattle.reply_body.specs.Contents.{shown_content}
use Rattle.reply_body.specs.Others.{shown_delay, shown_ran, shown_renewal, shown_rows_of_agent}
use Rattle.reply_body.specs.Reads.{has_none, shown_bytes, shown_key, shown_listing, shown_names, shown_other, shown_read, shown_rows, shown_tree, shown_value}
use Rattle.reply_body.specs.Refusals.{shown_refusal}
use Rattle.row_objects.specs.Objects.{names_data}
use Rattle.reply_body.specs.Writes.{shown_done, shown_refuse, shown_write}
use Rattle.reply_body.specs.declared.shown.Shown.{Shown}

abbrev IsFine : Shown → Type 0
IsFine shown = (100 ≤ shown.status) × (shown.status < 1000)

-- what is so of both branches
either : (b : Bool) (x y : Shown) → IsFine x → IsFine y → IsFine (if b then x else y)
either true x y f g = f
either false x y f g = g

ok : (100 ≤ 200) × (200 < 1000)
ok = (omega arith, omega arith)

absent : (100 ≤ 404) × (404 < 1000)
absent = (omega arith, omega arith)

conflict : (100 ≤ 409) × (409 < 1000)
conflict = (omega arith, omega arith)

broken : (100 ≤ 500) × (500 < 1000)
broken = (omega arith, omega arith)

busy : (100 ≤ 503) × (503 < 1000)
busy = (omega arith, omega arith)

refusal_fine : (why : Refusal) → IsFine (shown_refusal why)
refusal_fine (refusal.Invalid field) = (omega arith, omega arith)
refusal_fine (refusal.NotFound what) = absent
refusal_fine (refusal.Method allow) = (omega arith, omega arith)
refusal_fine refusal.TooLarge = (omega arith, omega arith)
refusal_fine (refusal.NoLeader term role held) = broken
refusal_fine (refusal.NotReady term applied_term) = broken
refusal_fine (refusal.Lost entered found) = broken
refusal_fine (refusal.TooMany waiting) = busy
refusal_fine (refusal.LogFull entries bytes) = busy
refusal_fine refusal.Unsupported = (omega arith, omega arith)
refusal_fine refusal.Memory = busy
refusal_fine (refusal.Halted server) = broken
refusal_fine refusal.HeadTooLarge = (omega arith, omega arith)
refusal_fine refusal.NoWorker = busy

rows_fine : (rows : List KvRow) → IsFine (shown_rows rows)
rows_fine [] = absent
rows_fine (r ∷ rows) = ok

bytes_fine : (value : List ℕ) → IsFine (shown_bytes value)
bytes_fine value = either (length value == 0) (plain 200 []) (record { status = 200; body = value; form = Octets }) ok ok

value_fine : (rows : List KvRow) → IsFine (shown_value rows)
value_fine [] = absent
value_fine (r ∷ rows) = bytes_fine r.value

names_fine : (prefix : List ℕ) (names : List (List ℕ)) → IsFine (shown_names prefix names)
names_fine prefix names = either (has_none names && not (is_empty prefix)) (plain 404 []) (json 200 (names_data names)) absent ok

key_fine : (raw : Bool) (a : Answer) → IsFine (shown_key raw a)
key_fine true (answer.Rows rows) = value_fine rows
key_fine false (answer.Rows rows) = rows_fine rows
key_fine raw other = absent

tree_fine : (a : Answer) → IsFine (shown_tree a)
tree_fine (answer.Rows rows) = rows_fine rows
tree_fine other = absent

listing_fine : (prefix : List ℕ) (a : Answer) → IsFine (shown_listing prefix a)
listing_fine prefix (answer.Names names) = names_fine prefix names
listing_fine prefix other = absent

other_fine : (a : Answer) → IsFine (shown_other a)
other_fine (answer.Nodes rows) = ok
other_fine (answer.Services rows) = ok
other_fine (answer.NodeView row services) = ok
other_fine (answer.Checks rows) = ok
other_fine (answer.Sessions rows) = ok
other_fine (answer.Queries rows) = ok
other_fine other = absent

service_fine : (name : List ℕ) (tags : List (List ℕ)) (a : Answer) → IsFine (shown_read (query.Service name tags) true a)
service_fine name tags (answer.Instances xs) = ok
service_fine name tags other = absent

health_fine : (name : List ℕ) (tags : List (List ℕ)) (passing : Bool) (a : Answer) → IsFine (shown_read (query.HealthService name tags passing) true a)
health_fine name tags passing (answer.Instances xs) = ok
health_fine name tags passing other = absent

read_fine : (q : Query) (raw : Bool) (a : Answer) → IsFine (shown_read q raw a)
read_fine (query.Key key) raw a = key_fine raw a
read_fine (query.Prefix prefix) raw a = tree_fine a
read_fine (query.Keys prefix separator) raw a = listing_fine prefix a
read_fine (query.Service name tags) raw a = service_fine name tags a
read_fine (query.HealthService name tags passing) raw a = health_fine name tags passing a
read_fine other raw a = other_fine a

done_fine : (c : Command) → IsFine (shown_done c)
done_fine (command.QuerySet id true name session service only_passing tags dns_ttl_ms) = ok
done_fine (command.QuerySet id false name session service only_passing tags dns_ttl_ms) = ok
done_fine other = ok

refuse_fine : (why : Refuse) → IsFine (shown_refuse why)
refuse_fine refuse.UnknownQuery = absent
refuse_fine other = broken

write_fine : (c : Command) (a : Applied) → IsFine (shown_write c a)
write_fine c applied.Done = done_fine c
write_fine c applied.Yes = ok
write_fine c applied.No = ok
write_fine c (applied.Results results) = ok
write_fine c (applied.RolledBack op v) = conflict
write_fine c (applied.Refused why) = refuse_fine why

agent_fine : (body : List ℕ) → IsFine (shown_rows_of_agent body)
agent_fine body = either (length body == 0) (plain 200 []) (record { status = 200; body = body; form = Json }) ok ok

delay_fine : (c : Command) (key : List ℕ) → IsFine (shown_delay c key)
delay_fine (command.Txn ops) key = conflict
delay_fine other key = ok

ran_fine : (ran : Option _) → IsFine (shown_ran ran)
ran_fine None = absent
ran_fine (Some ran) = ok

renewal_fine : (row : Option _) → IsFine (shown_renewal row)
renewal_fine None = absent
renewal_fine (Some row) = ok

pub is_code : (c : rules.Content) → (100 ≤ (shown_content c).status) × ((shown_content c).status < 1000)
is_code (rules.Shows q raw a) = read_fine q raw a
is_code (rules.Tells c a) = write_fine c a
is_code (rules.Runs ran) = ran_fine ran
is_code (rules.Renews row) = renewal_fine row
is_code (rules.Holds body) = agent_fine body
is_code (rules.Defers c key) = delay_fine c key
is_code (rules.Says why) = refusal_fine why
is_code rules.Blank = broken
