-- What the tables of a store keep in place of the log, and when they stand for one: their rows are the catalog's, and
-- their positions those of the last steps that fired the channels.
-- Consul, "Blocking Queries": the index of a read is that of the tables and rows that it reads.
use Rattle.std.specs.Prelude.{◌≡◌, ◌≤◌, ℕ, ◌+◌, Bool, true, if◌then◌else◌, List, [], ◌∷◌, length, reverse}
use Rattle.std.proofs.Common.{max}
use Rattle.cat_model.specs.Keys.{same_text}
use Rattle.cat_model.specs.Catalog.{Catalog, empty_catalog}
use Rattle.cat_model.specs.Machine.{apply, at_past, catalog_at}
use Rattle.cat_model.specs.Queries.{answer}
use Rattle.cat_model.specs.Indexes.{has_name, has_node, index_of}
use Rattle.cat_model.specs.KvIndexes.{key_index, prefix_index, GivesIndexes, tombs_after, floor_after}
use Rattle.cat_model.specs.Channels.{chans, fires}
use Rattle.cat_model.specs.declared.query.Query.{Query}
use Rattle.cat_model.specs.declared.query.Query.TheVariants as q
use Rattle.cat_model.specs.declared.query.Chan.{Chan}
use Rattle.cat_model.specs.declared.query.Chan.TheVariants.{Nodes, Services, Checks, Sessions, Queries, Service, Vanished, Node, NodeChecks, NodeGone}
use Rattle.cat_model.specs.declared.command.Command.{Command}

-- the last position that fired the channel, or 1, looking back over the whole log
unfoldable pub past_fired : Chan → List Command → ℕ
past_fired chan [] = 1
past_fired chan (c ∷ past) = if fires (at_past past) c (at_past (c ∷ past)) chan then length past + 1 else past_fired chan past

abbrev pub last_fired : Chan → List Command → ℕ
last_fired chan log = past_fired chan (reverse log)

-- The plain values of the tables: the rows, the tombstones and the floor of the keys, a position for each of the other
-- tables, a position for each service name that has rows and one for all the names that have none, and for each node that
-- is there a position of its row and services, one of its checks, and one for all the nodes that are not there.
pub record Kept : Type 0 where
  pub rows : Catalog
  pub tombs : List (List ℕ × ℕ)
  pub floor : ℕ
  pub nodes : ℕ
  pub services : ℕ
  pub checks : ℕ
  pub sessions : ℕ
  pub queries : ℕ
  pub names : List (List ℕ × ℕ)
  pub vanished : ℕ
  pub hosts : List (List ℕ × ℕ)
  pub host_checks : List (List ℕ × ℕ)
  pub gone : ℕ

-- what is kept before the first command
abbrev pub nothing_kept : Kept
nothing_kept = record { rows = empty_catalog; tombs = []; floor = 1; nodes = 1; services = 1; checks = 1; sessions = 1; queries = 1; names = []; vanished = 1; hosts = []; host_checks = []; gone = 1 }

-- the position of a name, which is the least where it has none
abbrev pub position_of : List ℕ → List (List ℕ × ℕ) → ℕ
position_of name [] = 1
position_of name (n ∷ names) = if same_text n.0 name then n.1 else position_of name names

-- the last change of a node's row, services and checks
abbrev pub health_position : List ℕ → Kept → ℕ
health_position node kept = max (position_of node kept.hosts) (position_of node kept.host_checks)

-- what is kept stands for the log
pub record StandsFor (kept : Kept) (log : List Command) : Type 0 where
  pub rows : kept.rows ≡ catalog_at log
  pub keys : GivesIndexes (reverse log) kept.tombs kept.floor
  pub nodes : kept.nodes ≡ last_fired Nodes log
  pub services : kept.services ≡ last_fired Services log
  pub checks : kept.checks ≡ last_fired Checks log
  pub sessions : kept.sessions ≡ last_fired Sessions log
  pub queries : kept.queries ≡ last_fired Queries log
  pub names : (name : List ℕ) → has_name name (catalog_at log) ≡ true → position_of name kept.names ≡ last_fired (Service name) log
  pub vanished : kept.vanished ≡ last_fired Vanished log
  pub hosts : (node : List ℕ) → has_node node (catalog_at log) ≡ true → position_of node kept.hosts ≡ last_fired (Node node) log
  -- checks that an earlier node of this name had went with it, before this one came
  pub host_checks : (node : List ℕ) → has_node node (catalog_at log) ≡ true → health_position node kept ≡ max (last_fired (Node node) log) (last_fired (NodeChecks node) log)
  pub gone : kept.gone ≡ last_fired NodeGone log

-- the index of a service's name: its own position where it has rows, and else that of all the names without any
abbrev pub name_index : List ℕ → Kept → ℕ
name_index name kept = if has_name name kept.rows then position_of name kept.names else kept.vanished

-- the index of what a query of a node reads: its own where the node is there, and else that of all that are not
abbrev pub host_index : List ℕ → ℕ → Kept → ℕ
host_index node own kept = if has_node node kept.rows then own else kept.gone

-- the index of a query, from what is kept
unfoldable pub kept_index : Query → Kept → ℕ
kept_index q.Nodes kept = kept.nodes
kept_index q.Services kept = kept.services
kept_index (q.Service name tags) kept = name_index name kept
kept_index (q.NodeServices node) kept = host_index node (position_of node kept.hosts) kept
kept_index (q.HealthService name tags passing) kept = name_index name kept
kept_index (q.HealthChecks name) kept = max kept.checks kept.services
kept_index (q.HealthNode node) kept = host_index node (health_position node kept) kept
kept_index (q.HealthState state) kept = max kept.checks kept.services
kept_index (q.Key key) kept = key_index key kept.rows.kv kept.tombs kept.floor
kept_index (q.Prefix prefix) kept = prefix_index prefix kept.rows.kv kept.tombs kept.floor
kept_index (q.Keys prefix separator) kept = prefix_index prefix kept.rows.kv kept.tombs kept.floor
kept_index (q.SessionInfo id) kept = kept.sessions
kept_index (q.SessionsOf node) kept = kept.sessions
kept_index q.Sessions kept = kept.sessions
kept_index (q.QueryInfo id) kept = kept.queries
kept_index q.Queries kept = kept.queries

-- The view law. What stands for a log gives the index, the answer and the channels of every query there.
pub record ViewLaw (q : Query) (kept : Kept) (log : List Command) : Type 0 where
  pub index : kept_index q kept ≡ index_of q log
  pub answers : answer q kept.rows ≡ answer q (catalog_at log)
  pub hangs : chans q kept.rows ≡ chans q (catalog_at log)

-- The positions of service names, of nodes with their services, and of the checks of nodes.
pub record NamePositions : Type 0 where
  pub services : List (List ℕ × ℕ)
  pub hosts : List (List ℕ × ℕ)
  pub host_checks : List (List ℕ × ℕ)

-- The tables after a command at position i: what it fires moves to i, and the keys that it removes get tombstones.
abbrev pub moved : ℕ → Bool → ℕ → ℕ
moved i fired old = if fired then i else old

unfoldable pub kept_after : ℕ → Command → NamePositions → Kept → Kept
kept_after i c names kept =
    let after = (apply i c kept.rows).0 in
    record {
      rows = after;
      tombs = tombs_after i c kept.rows.kv after.kv kept.tombs;
      floor = floor_after i c kept.floor;
      nodes = moved i (fires kept.rows c after Nodes) kept.nodes;
      services = moved i (fires kept.rows c after Services) kept.services;
      checks = moved i (fires kept.rows c after Checks) kept.checks;
      sessions = moved i (fires kept.rows c after Sessions) kept.sessions;
      queries = moved i (fires kept.rows c after Queries) kept.queries;
      names = names.services;
      vanished = moved i (fires kept.rows c after Vanished) kept.vanished;
      hosts = names.hosts;
      host_checks = names.host_checks;
      gone = moved i (fires kept.rows c after NodeGone) kept.gone;
    }

-- The positions of the names that have rows after the command: each that fires moves to i. Of a node that was not there
-- before, the checks have a position of at most i.
pub record NamesAfter (i : ℕ) (c : Command) (kept : Kept) (names : NamePositions) : Type 0 where
  pub each : (name : List ℕ) → has_name name (apply i c kept.rows).0 ≡ true → position_of name names.services ≡ moved i (fires kept.rows c (apply i c kept.rows).0 (Service name)) (position_of name kept.names)
  pub hosts : (node : List ℕ) → has_node node (apply i c kept.rows).0 ≡ true → position_of node names.hosts ≡ moved i (fires kept.rows c (apply i c kept.rows).0 (Node node)) (position_of node kept.hosts)
  pub checks : (node : List ℕ) → has_node node (apply i c kept.rows).0 ≡ true → has_node node kept.rows ≡ true → position_of node names.host_checks ≡ moved i (fires kept.rows c (apply i c kept.rows).0 (NodeChecks node)) (position_of node kept.host_checks)
  pub few : (node : List ℕ) → position_of node names.host_checks ≤ i
