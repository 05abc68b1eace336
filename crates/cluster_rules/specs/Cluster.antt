-- The cluster over plain values: its world, what each server has applied, the requests that it holds, and the marks.
use Rattle.std.specs.Prelude.{ℕ, zero, suc, ◌-◌, ◌==◌, ◌&&◌, ◌||◌, not, Bool, false, List, [], length, get_or, replicate, is_some, if◌then◌else◌, Option, Some, None}
use Rattle.cat_model.specs.declared.command.Entry.{Entry}
use Rattle.cat_model.specs.declared.reply.Kind.{Kind}
use Rattle.cat_model.specs.declared.reply.Kind.TheVariants.{At}
use Rattle.cat_model.specs.declared.reply.Mark.{Mark}
use Rattle.cat_model.specs.Log.{commands_of}
use Rattle.cat_model.specs.Role.{leads}
use Rattle.raft_model.specs.declared.message.Round.{Round}
use Rattle.raft_model.specs.Log.{Log}
use Rattle.raft_model.specs.Node.{Node, begun, of_server, set_server}
use Rattle.raft_model.specs.World.{World, nothing_kept}
use Rattle.cluster_rules.specs.Agents.{Agent, new_agent}
use Rattle.cluster_rules.specs.Lasting.{is_stale}
use Rattle.cluster_rules.specs.Offices.{Office, no_office, office_from, delay_over}
use Rattle.cluster_rules.specs.Replies.{Question, Out}

-- What a server has applied since it last started, with its clock at each position, and its time in office.
pub record Server : Type 0 where
  pub applied : Log
  pub clocks : List ℕ
  pub office : Office

-- What a held request waits for: that the server applies its position; that its round is confirmed; an index above
-- the one given, `looked` where it was looked for and was not there; to be closed, since its server restarted in this
-- event.
pub data Stand : Type 0 where
  AtPlace : (index term : ℕ) → Stand
  InRound : (round : Round) (deadline : ℕ) → Stand
  ForIndex : (deadline : ℕ) (looked : Bool) → Stand
  Ended : (event : ℕ) → Stand

-- a request that a server holds
pub record Pending : Type 0 where
  pub question : Question
  pub server : ℕ
  pub stand : Stand

-- What the act of a request's asking did, for the record alone: nothing reads it.
pub data Start : Type 0 where
  Proposed : (index : ℕ) (entry : Entry) → Start
  Probed : (number server : ℕ) (round : Round) → Start
  Looked : (number server applied : ℕ) → Start

-- the cluster
pub record Cluster : Type 0 where
  pub world : World
  pub servers : List Server
  pub agents : List Agent
  pub asked : ℕ  -- how many requests were asked
  pub held : List Pending  -- in the order of their numbers
  pub starts : List Start  -- the last one first
  pub fresh : List Out  -- the outs of the event at work, in the order of their numbers
  pub tray : List Out
  pub past : List Mark  -- the last one first

-- what stands for a server that is not there
abbrev pub no_node : Node
no_node = begun 0 0 (record { contents = None; armed = 0; faults = 0; sure = false }) nothing_kept

abbrev pub no_server : Server
no_server = record { applied = []; clocks = []; office = no_office }

-- of a list by server, whose numbers start at 1, server i's item
abbrev pub item_of : {A : Type 0} → A → List A → ℕ → A
item_of none items zero = none
item_of none items (suc i) = get_or items i none

-- server i's node
abbrev pub node_of : World → ℕ → Node
node_of w i = item_of no_node w.nodes i

-- what server i has applied, with its clocks
abbrev pub server_of : List Server → ℕ → Server
server_of servers i = item_of no_server servers i

-- what server i has applied
abbrev pub applied_of : Cluster → ℕ → Log
applied_of c i = (server_of c.servers i).applied

-- agent a
abbrev pub agent_of : Cluster → ℕ → Agent
agent_of c a = item_of new_agent c.agents a

-- server i's clock, in milliseconds
abbrev pub clock_of : World → ℕ → ℕ
clock_of w i = of_server w.clocks i

-- the server runs and leads
abbrev pub runs_leading : World → ℕ → Bool
runs_leading w i = not (node_of w i).halted && leads (node_of w i).role

-- when a key's lock delay is over at server i
abbrev pub until_at : Cluster → ℕ → List ℕ → ℕ
until_at c i key = delay_over (commands_of (applied_of c i)) (server_of c.servers i).clocks key

-- server i's time in office
abbrev pub office_of : Cluster → ℕ → Office
office_of c i = (server_of c.servers i).office

-- the cluster with another time in office of server i
abbrev pub with_office : ℕ → Office → Cluster → Cluster
with_office i o c = record c { servers = set_server c.servers i (record (server_of c.servers i) { office = o }) }

-- Server i leads now, and did not before in this term: it begins a time in office.
abbrev pub took_office : World → World → ℕ → Bool
took_office w w' i = runs_leading w' i && not (runs_leading w i && ((node_of w i).term == (node_of w' i).term))

abbrev pub seated : World → ℕ → Cluster → Cluster
seated w i c = if took_office w c.world i then with_office i (office_from (clock_of c.world i)) c else c

-- Consul, "Consistency Modes": the headers KnownLeader and LastContact.
-- A default or consistent answer knows a leader, and a stale one where its server leads or holds one for leader. No
-- other reply speaks of it.
abbrev pub knows : World → ℕ → Kind → Bool
knows w i (At mode prefix index clock deadline) = not (is_stale mode) || leads (node_of w i).role || is_some (node_of w i).leader
knows w i other = false

-- the time since then, and 0 where there was nothing
abbrev pub since : Option ℕ → ℕ → ℕ
since None now = 0
since (Some last) now = now - last

-- The time since the last Append that the server accepted in its life, and 0 where it leads or accepted none.
abbrev pub contact_of : World → ℕ → Kind → ℕ
contact_of w i (At mode prefix index clock deadline) = if leads (node_of w i).role then 0 else since (item_of None w.contacts i) (clock_of w i)
contact_of w i other = 0

-- servers that have just started
abbrev pub started : World → ℕ → Cluster
started w agents = record {
  world = w;
  servers = replicate (length w.nodes) no_server;
  agents = replicate agents new_agent;
  asked = 0;
  held = [];
  starts = [];
  fresh = [];
  tray = [];
  past = [];
}
