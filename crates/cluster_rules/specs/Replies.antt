-- Requests with their numbers, and what a reply shows. The cluster knows no JSON: a reply's status, body and form are
-- a function of its content (Consul, HTTP API, version 1).
use Rattle.std.specs.Int.{w128, from_be_bytes}
use Rattle.std.specs.Option.{option_map}
use Rattle.std.specs.Prelude.{ℕ, ◌-◌, if◌then◌else◌, Bool, true, List, take, Option, Some, None}
use Rattle.cat_model.specs.declared.query.Query.{Query}
use Rattle.cat_model.specs.declared.query.Answer.{Answer}
use Rattle.cat_model.specs.declared.command.Command.{Command}
use Rattle.cat_model.specs.declared.command.Command.TheVariants.{SessionCreate, QuerySet}
use Rattle.cat_model.specs.declared.command.Entry.{Entry}
use Rattle.cat_model.specs.declared.applied.Applied.{Applied}
use Rattle.cat_model.specs.declared.query.Ran.{Ran}
use Rattle.cat_model.specs.declared.row.SessionRow.{SessionRow}
use Rattle.cat_model.specs.declared.request.Request.TheVariants.{Read, Execute, Write, Renew}
use Rattle.cat_model.specs.declared.request.Asked.{Asked}
use Rattle.cat_model.specs.declared.request.Asked.TheVariants.{Good}
use Rattle.cat_model.specs.declared.request.Draw.{Draw}
use Rattle.cat_model.specs.declared.reply.Kind.{Kind}
use Rattle.cat_model.specs.declared.reply.Kind.TheVariants.{Acked, At, Seen, Local, Delayed, Refused}
use Rattle.cat_model.specs.declared.reply.Mark.{Mark}
use Rattle.cat_model.specs.declared.reply.Mark.TheVariants as mark
use Rattle.cat_model.specs.declared.reply.Refusal.{Refusal}
use Rattle.uuid.specs.Text.{parsed}
use Rattle.cat_model.specs.Catalog.{session_at}
use Rattle.cat_model.specs.Executions.{execution}
use Rattle.cat_model.specs.Identifiers.{identifier}
use Rattle.cat_model.specs.Keys.{is_empty}
use Rattle.cat_model.specs.Log.{commands_of}
use Rattle.cat_model.specs.Machine.{catalog_at, reply_to}
use Rattle.cat_model.specs.Queries.{answer}
use Rattle.raft_model.specs.Log.{entry_at}
use Rattle.cluster_rules.specs.Agents.{agent_node}

-- A request with its number, the agent that was asked, and the words that were drawn for it.
pub record Question : Type 0 where
  pub number : ℕ
  pub agent : ℕ
  pub asked : Asked
  pub draw : Draw

-- the mark of its asking
abbrev pub came : Question → Mark
came q = mark.Asked q.number q.agent q.asked q.draw

-- The command that a write enters into the log: a new session or prepared query gets the identifier that was drawn,
-- and a session without a node is its agent's.
unfoldable pub entered : Question → Command → Command
entered q (SessionCreate id name node checks behavior delay_ms ttl_ms) =
    SessionCreate (identifier q.draw.hi q.draw.lo) name (if is_empty node then agent_node q.agent else node) checks behavior delay_ms ttl_ms
entered q (QuerySet id true name session service only_passing tags dns_ttl_ms) =
    QuerySet (identifier q.draw.hi q.draw.lo) true name session service only_passing tags dns_ttl_ms
entered q command = command

-- What a reply shows. `Blank` is what no lasting reply shows.
pub data Content : Type 0 where
  Shows : (query : Query) (raw : Bool) (answer : Answer) → Content
  Tells : (command : Command) (applied : Applied) → Content
  Runs : (ran : Option Ran) → Content
  Renews : (row : Option SessionRow) → Content
  Holds : (body : List ℕ) → Content
  Defers : (command : Command) (key : List ℕ) → Content
  Says : (why : Refusal) → Content
  Blank : Content

-- the answer of the write that stands at a position of a log
abbrev pub shown_entry : Option Entry → ℕ → List Entry → Content
shown_entry None position log = Blank
shown_entry (Some e) position log = Tells e.command (reply_to (commands_of (take (position - 1) log)) e.command)

-- What it shows over a log: of a write the answer at its position. That its own entry stands there is a part of what lasts.
abbrev pub shown_write : Asked → ℕ → List Entry → Content
shown_write (Good (Write command)) position log = shown_entry (entry_at position log) position log
shown_write other position log = Blank

-- a read shows the catalog at its prefix
abbrev pub shown_read : Asked → ℕ → List Entry → Content
shown_read (Good (Read query mode least wait raw)) prefix log = Shows query raw (answer query (catalog_at (commands_of (take prefix log))))
shown_read other prefix log = Blank

-- the identifier that a text spells
abbrev pub id_in : List ℕ → Option ℕ
id_in text = option_map (from_be_bytes w128) (parsed text)

-- an execution shows what the prepared query gives at its prefix, a renewal the session's row
abbrev pub shown_seen : Asked → ℕ → List Entry → Content
shown_seen (Good (Execute name limit mode)) prefix log = Runs (execution (catalog_at (commands_of (take prefix log))) (id_in name) name limit)
shown_seen (Good (Renew id)) prefix log = Renews (session_at id (catalog_at (commands_of (take prefix log))).sessions)
shown_seen other prefix log = Blank

-- a write that a lock delay refused, with the key
abbrev pub shown_delay : Question → Asked → List ℕ → Content
shown_delay q (Good (Write command)) key = Defers (entered q command) key
shown_delay q other key = Blank

-- what a reply of this kind shows over a log
unfoldable pub shown : Question → Kind → List Entry → Content
shown q (Acked position) log = shown_write q.asked position log
shown q (At mode prefix index clock deadline) log = shown_read q.asked prefix log
shown q (Seen mode prefix) log = shown_seen q.asked prefix log
shown q (Local body) log = Holds body
shown q (Delayed key until now) log = shown_delay q q.asked key
shown q (Refused why) log = Says why

-- the index that a reply names, which is that of a read
abbrev pub index_shown : Kind → Option ℕ
index_shown (At mode prefix index clock deadline) = Some index
index_shown other = None

-- a reply as the cluster makes it
pub record Reply : Type 0 where
  pub number : ℕ
  pub index : Option ℕ
  pub content : Content
  pub known : Bool  -- whether a leader is known
  pub contact : ℕ  -- milliseconds since the last contact with it
  pub kind : Kind

-- the reply of this kind that shows what the log holds
abbrev pub reply_of : Question → Kind → Bool → ℕ → List Entry → Reply
reply_of q kind known contact log = record {
  number = q.number;
  index = index_shown kind;
  content = shown q kind log;
  known = known;
  contact = contact;
  kind = kind;
}

-- what an event gives to the outside
pub data Out : Type 0 where
  Replied : (reply : Reply) → Out
  Closed : (number event : ℕ) → Out
  Synced : (agent : ℕ) (count : Option ℕ) → Out

-- the request that an out is of; a sync's is of none
abbrev pub number_of : Out → Option ℕ
number_of (Replied reply) = Some reply.number
number_of (Closed number event) = Some number
number_of (Synced agent count) = None
