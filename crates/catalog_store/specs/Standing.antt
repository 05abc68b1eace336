-- When each of the tables of a store stands for a log. Together they stand for it as cat_model says.
-- Consul, "Blocking Queries": the index of a read is that of the tables and rows that it reads.
use Rattle.std.specs.Prelude.{◌≡◌, ◌<◌, ◌≤◌, ℕ, ◌+◌, true, false, List, is_some, length, reverse}
use Rattle.std.proofs.Common.{max}
use Rattle.std.specs.List.{AllByRecursion}
use Rattle.std.specs.Ordering.{nat_cmp}
use Rattle.cat_model.specs.Tables.{Ascends}
use Rattle.cat_model.specs.Catalog.{session_key}
use Rattle.cat_model.specs.Machine.{broken, catalog_at, other_has_name}
use Rattle.cat_model.specs.Indexes.{has_name, has_node}
use Rattle.cat_model.specs.KvIndexes.{GivesIndexes}
use Rattle.cat_model.specs.Views.{last_fired, position_of}
use Rattle.cat_model.specs.declared.row.QueryRow.{QueryRow}
use Rattle.cat_model.specs.declared.query.Chan.TheVariants as chan
use Rattle.cat_model.specs.declared.command.Command.{Command}
use Rattle.kv_table.specs.States.{KvState}
use Rattle.catalog_table.specs.Rows.{Rows, rows_of, catalog_of}
use Rattle.touch_positions.specs.NameVersions.{own_position}
use Rattle.touch_positions.specs.States.{IndexState, name_position, host_position, host_checks_position}
use Rattle.catalog_store.specs.Steps.{Earlier}
use Rattle.catalog_store.specs.States.{State, now_of, before_of}
use Rattle.catalog_store.specs.declared.tables.Tables.{Tables}

-- the table of keys has the log's rows and gives its indexes
pub record KeysStand (kv : KvState) (log : List Command) : Type 0 where
  pub rows : kv.rows ≡ (catalog_at log).kv
  pub indexes : GivesIndexes (reverse log) kv.tombs kv.floor

-- nodes, services and checks are the log's
abbrev pub RowsStand : Rows → List Command → Type 0
RowsStand rows log = rows ≡ rows_of (catalog_at log)

-- The positions are those of the last steps that fired the channels. Just the names that have rows and the nodes that are
-- there have their own.
pub record PositionsStand (index : IndexState) (log : List Command) : Type 0 where
  pub nodes : index.nodes ≡ last_fired chan.Nodes log
  pub services : index.services ≡ last_fired chan.Services log
  pub checks : index.checks ≡ last_fired chan.Checks log
  pub sessions : index.sessions ≡ last_fired chan.Sessions log
  pub queries : index.queries ≡ last_fired chan.Queries log
  pub names : (name : List ℕ) → has_name name (catalog_at log) ≡ true → position_of name index.names ≡ last_fired (chan.Service name) log
  pub own : (name : List ℕ) → is_some (own_position name index.names) ≡ has_name name (catalog_at log)
  pub vanished : index.vanished ≡ last_fired chan.Vanished log
  pub hosts : (node : List ℕ) → has_node node (catalog_at log) ≡ true → position_of node index.hosts ≡ last_fired (chan.Node node) log
  pub own_hosts : (node : List ℕ) → is_some (own_position node index.hosts) ≡ has_node node (catalog_at log)
  pub host_checks : (node : List ℕ) → has_node node (catalog_at log) ≡ true → max (position_of node index.hosts) (position_of node index.host_checks) ≡ max (last_fired (chan.Node node) log) (last_fired (chan.NodeChecks node) log)
  pub few : (node : List ℕ) → position_of node index.host_checks ≤ length log + 1
  pub gone : index.gone ≡ last_fired chan.NodeGone log

-- no two queries have one name, and all were written before this position
pub record QueriesFit (i : ℕ) (queries : List QueryRow) : Type 0 where
  pub once : AllByRecursion (λ q. other_has_name q queries ≡ false) queries
  pub earlier : AllByRecursion (λ q. q.modify < i) queries

-- all the tables stand for the log
pub record Stands (s : State) (log : List Command) : Type 0 where
  pub version : s.version ≡ (catalog_at log).version
  pub keys : KeysStand s.keys log
  pub rows : RowsStand s.rows log
  pub sessions : s.sessions ≡ (catalog_at log).sessions
  pub queries : s.queries ≡ (catalog_at log).queries
  pub order : Ascends nat_cmp session_key s.sessions
  pub fit : QueriesFit (length log + 1) s.queries
  pub positions : PositionsStand s.index log

-- the tables stand for the log, and nothing is left to take back
pub record Holds (t : Tables) (log : List Command) : Type 0 where
  pub now : Stands (now_of t) log
  pub kept : before_of t ≡ now_of t

-- no position is above this one
pub record Within (i : ℕ) (index : IndexState) : Type 0 where
  pub nodes : index.nodes ≤ i
  pub services : index.services ≤ i
  pub checks : index.checks ≤ i
  pub sessions : index.sessions ≤ i
  pub queries : index.queries ≤ i
  pub vanished : index.vanished ≤ i
  pub names : (name : List ℕ) → name_position name index ≤ i
  pub hosts : (node : List ℕ) → host_position node index ≤ i
  pub host_checks : (node : List ℕ) → host_checks_position node index ≤ i
  pub gone : index.gone ≤ i

-- just the names that have rows, and the nodes that are there, have a position of their own
pub record Owned (rows : Rows) (index : IndexState) : Type 0 where
  pub names : (name : List ℕ) → is_some (own_position name index.names) ≡ has_name name (catalog_of rows)
  pub hosts : (node : List ℕ) → is_some (own_position node index.hosts) ≡ has_node node (catalog_of rows)

-- the tables may go on at this position
pub record Ready (i : ℕ) (s : State) : Type 0 where
  pub least : 1 ≤ i
  pub earlier : Earlier i s.keys.rows
  pub within : Within i s.index
  pub owned : Owned s.rows s.index
  pub whole : AllByRecursion (λ t. broken (catalog_of s.rows) t ≡ false) s.sessions
  pub order : Ascends nat_cmp session_key s.sessions
  pub fit : QueriesFit i s.queries
