-- What the catalog's answers to writes show: Consul's HTTP API version 1, the endpoints of the catalog, the KV store,
-- sessions, prepared queries and transactions.
use Rattle.std.specs.Prelude.{ℕ, Bool, true, false, if◌then◌else◌, List, [], ◌++◌, map, codes}
use Rattle.serde_json.specs.Data.{Data, null, number, string, array, object, unsigned, member, no_members, item, no_items}
use Rattle.serde_json.specs.View.{items_of}
use Rattle.cat_model.specs.declared.applied.Applied.{Applied}
use Rattle.cat_model.specs.declared.applied.Applied.TheVariants.{Done, Yes, No, Results, RolledBack, Refused}
use Rattle.cat_model.specs.declared.applied.Refuse.{Refuse}
use Rattle.cat_model.specs.declared.applied.Refuse.TheVariants as refuse
use Rattle.cat_model.specs.declared.applied.TxnResult.{TxnResult}
use Rattle.cat_model.specs.declared.command.Command.{Command}
use Rattle.cat_model.specs.declared.command.Command.TheVariants.{SessionCreate, QuerySet, QueryDelete}
use Rattle.cat_model.specs.declared.command.Verb.{Verb}
use Rattle.cat_model.specs.declared.command.Verb.TheVariants as verb
use Rattle.cat_model.specs.declared.reply.Form.TheVariants.{Json}
use Rattle.cat_model.specs.declared.row.KvRow.{KvRow}
use Rattle.reply_body.specs.Bodies.{json, plain, id_text, row_data}
use Rattle.reply_body.specs.declared.shown.Shown.{Shown}

-- whether a write was done
abbrev pub shown_bool : Bool → Shown
shown_bool true = record { status = 200; body = codes "true"; form = Json }
shown_bool false = record { status = 200; body = codes "false"; form = Json }

-- a new session or prepared query is shown by its identifier
unfoldable pub id_data : ℕ → Data
id_data id = object (member (codes "ID") (string (id_text id)) no_members)

-- a command that is done: most show true
abbrev pub shown_done : Command → Shown
shown_done (SessionCreate id name node checks behavior delay_ms ttl_ms) = json 200 (id_data id)
shown_done (QuerySet id true name session service only_passing tags dns_ttl_ms) = json 200 (id_data id)
shown_done (QuerySet id false name session service only_passing tags dns_ttl_ms) = plain 200 []
shown_done (QueryDelete id) = plain 200 []
shown_done other = shown_bool true

-- a refusal of the catalog
abbrev pub shown_refuse : Refuse → Shown
shown_refuse refuse.MissingNode = plain 500 (codes "Missing node")
shown_refuse refuse.MissingService = plain 500 (codes "Missing service")
shown_refuse refuse.MissingCheck = plain 500 (codes "Missing check")
shown_refuse refuse.CriticalCheck = plain 500 (codes "Critical check")
shown_refuse refuse.UnknownSession = plain 500 (codes "Unknown session")
shown_refuse refuse.NameTaken = plain 500 (codes "Name taken")
shown_refuse refuse.IdTaken = plain 500 (codes "ID taken")
shown_refuse refuse.UnknownQuery = plain 404 (codes "Query not found")

-- the operations of transactions by their names
abbrev pub verb_text : Verb → List ℕ
verb_text verb.Set = codes "set"
verb_text verb.Cas = codes "cas"
verb_text verb.Lock = codes "lock"
verb_text verb.Unlock = codes "unlock"
verb_text verb.Get = codes "get"
verb_text verb.GetOrEmpty = codes "get-or-empty"
verb_text verb.GetTree = codes "get-tree"
verb_text verb.CheckIndex = codes "check-index"
verb_text verb.CheckSession = codes "check-session"
verb_text verb.CheckNotExists = codes "check-not-exists"
verb_text verb.Delete = codes "delete"
verb_text verb.DeleteTree = codes "delete-tree"
verb_text verb.DeleteCas = codes "delete-cas"

-- a row of a transaction, which may be shown without its value
abbrev pub without_value : KvRow → KvRow
without_value row = record row { value = [] }

abbrev pub shown_row : TxnResult → KvRow
shown_row result = if result.with_value then result.row else without_value result.row

unfoldable pub result_data : TxnResult → Data
result_data result = object (member (codes "KV") (row_data (shown_row result)) no_members)

unfoldable pub results_data : List TxnResult → Data
results_data results = object
    (member (codes "Errors") null
    (member (codes "Results") (array (items_of (map result_data results))) no_members))

unfoldable pub failure_data : ℕ → Verb → Data
failure_data op v = object
    (member (codes "Errors") (array (item (object
    (member (codes "OpIndex") (number (unsigned op))
    (member (codes "What") (string (verb_text v ++ codes " failed")) no_members))) no_items))
    (member (codes "Results") null no_members))

abbrev pub shown_write : Command → Applied → Shown
shown_write command Done = shown_done command
shown_write command Yes = shown_bool true
shown_write command No = shown_bool false
shown_write command (Results results) = json 200 (results_data results)
shown_write command (RolledBack op v) = json 409 (failure_data op v)
shown_write command (Refused why) = shown_refuse why
