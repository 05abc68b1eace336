-- What executions, renewals, agents' answers and delayed writes show: Consul's HTTP API version 1, the endpoints of
-- prepared queries, sessions, agents, the KV store and transactions.
use Rattle.std.specs.Prelude.{ℕ, ◌+◌, ◌==◌, ◌&&◌, false, if◌then◌else◌, List, [], ◌∷◌, length, map, Option, None, Some, codes}
use Rattle.serde_json.specs.Data.{Data, null, number, string, array, object, unsigned, member, no_members, item, no_items}
use Rattle.serde_json.specs.View.{items_of}
use Rattle.cat_model.specs.Keys.{same_text}
use Rattle.cat_model.specs.declared.command.Command.{Command}
use Rattle.cat_model.specs.declared.command.Command.TheVariants.{Txn}
use Rattle.cat_model.specs.declared.command.TxnOp.{TxnOp}
use Rattle.cat_model.specs.declared.query.Ran.{Ran}
use Rattle.cat_model.specs.declared.reply.Form.TheVariants.{Json}
use Rattle.cat_model.specs.declared.row.SessionRow.{SessionRow}
use Rattle.cluster_rules.specs.Locks.{is_lock}
use Rattle.reply_body.specs.Bodies.{json, plain}
use Rattle.row_objects.specs.Objects.{health_data}
use Rattle.reply_body.specs.Rows.{duration_text, session_data}
use Rattle.reply_body.specs.Writes.{shown_bool}
use Rattle.reply_body.specs.declared.shown.Shown.{Shown}

-- an execution of a prepared query; there is one datacenter
unfoldable pub ran_data : Ran → Data
ran_data ran = object
    (member (codes "DNS") (object (member (codes "TTL") (string (duration_text ran.dns_ttl_ms)) no_members))
    (member (codes "Datacenter") (string (codes "dc1"))
    (member (codes "Failovers") (number (unsigned 0))
    (member (codes "Nodes") (array (items_of (map health_data ran.nodes)))
    (member (codes "Service") (string ran.service) no_members)))))

abbrev pub shown_ran : Option Ran → Shown
shown_ran None = plain 404 (codes "Query not found")
shown_ran (Some ran) = json 200 (ran_data ran)

-- the renewed session, in a list
abbrev pub shown_renewal : Option SessionRow → Shown
shown_renewal None = plain 404 (codes "Session not found")
shown_renewal (Some row) = json 200 (array (items_of (session_data row ∷ [])))

-- an agent's rows as JSON, or nothing of a change, which is a plain text
abbrev pub shown_rows_of_agent : List ℕ → Shown
shown_rows_of_agent body = if length body == 0 then plain 200 [] else record { status = 200; body = body; form = Json }

-- the place of the first operation that locks the key, the first one at 0
abbrev pub locking_place : List ℕ → ℕ → List TxnOp → ℕ
locking_place key at [] = at
locking_place key at (o ∷ ops) = if is_lock o.verb && same_text o.key key then at else locking_place key (at + 1) ops

unfoldable pub delay_data : ℕ → Data
delay_data op = object
    (member (codes "Errors") (array (item (object
    (member (codes "OpIndex") (number (unsigned op))
    (member (codes "What") (string (codes "lock delay")) no_members))) no_items))
    (member (codes "Results") null no_members))

-- a write that a key's lock delay refused
abbrev pub shown_delay : Command → List ℕ → Shown
shown_delay (Txn ops) key = json 409 (delay_data (locking_place key 0 ops))
shown_delay other key = shown_bool false
