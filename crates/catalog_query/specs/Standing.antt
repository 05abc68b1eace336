-- What the tables of a store keep together, and when they stand for a log.
use Rattle.std.specs.Prelude.{◌≡◌, ℕ, Bool, if◌then◌else◌, List, [], is_some, unwrap_or}
use Rattle.std.proofs.Common.{max}
use Rattle.cat_model.specs.Catalog.{Catalog, empty_catalog}
use Rattle.cat_model.specs.Machine.{catalog_at}
use Rattle.cat_model.specs.Indexes.{has_name, has_node}
use Rattle.cat_model.specs.Views.{Kept, StandsFor, kept_index}
use Rattle.cat_model.specs.declared.row.SessionRow.{SessionRow}
use Rattle.cat_model.specs.declared.row.QueryRow.{QueryRow}
use Rattle.cat_model.specs.declared.query.Query.{Query}
use Rattle.cat_model.specs.declared.query.Query.TheVariants as q
use Rattle.cat_model.specs.declared.command.Command.{Command}
use Rattle.kv_table.specs.States.{KvState}
use Rattle.catalog_table.specs.Rows.{Rows}
use Rattle.touch_positions.specs.NameVersions.{own_position}
use Rattle.touch_positions.specs.States.{IndexState}

-- The rows of the tables. No table has the version of the machine, and no query reads it.
abbrev pub rows_of : KvState → Rows → List SessionRow → List QueryRow → Catalog
rows_of kv rows sessions queries =
    record empty_catalog { nodes = rows.nodes; services = rows.services; checks = rows.checks; kv = kv.rows; sessions = sessions; queries = queries }

abbrev pub kept_of : KvState → Rows → List SessionRow → List QueryRow → IndexState → Kept
kept_of kv rows sessions queries index =
    record {
      rows = rows_of kv rows sessions queries;
      tombs = kv.tombs;
      floor = kv.floor;
      nodes = index.nodes;
      services = index.services;
      checks = index.checks;
      sessions = index.sessions;
      queries = index.queries;
      names = index.names;
      vanished = index.vanished;
      hosts = index.hosts;
      host_checks = index.host_checks;
      gone = index.gone;
    }

-- the same rows in a machine of this version
abbrev pub rows_at : ℕ → Catalog → Catalog
rows_at version rows = record rows { version = version }

abbrev pub kept_at : ℕ → Kept → Kept
kept_at version kept = record kept { rows = rows_at version kept.rows }

-- a service name's own position, or that of all the names without one
abbrev pub own_or_vanished : List ℕ → Kept → ℕ
own_or_vanished name kept = unwrap_or (own_position name kept.names) kept.vanished

-- a node's own position, or that of all the nodes without one
abbrev pub own_or_gone : List ℕ → Kept → ℕ
own_or_gone node kept = unwrap_or (own_position node kept.hosts) kept.gone

-- the position of a node's checks, or the first
abbrev pub own_checks : List ℕ → Kept → ℕ
own_checks node kept = unwrap_or (own_position node kept.host_checks) 1

-- the index of a query by the positions, where a service name may have rows or none, and a node a row or none
unfoldable pub view_index : Query → Kept → ℕ
view_index (q.Service name tags) kept = own_or_vanished name kept
view_index (q.HealthService name tags passing) kept = own_or_vanished name kept
view_index (q.NodeServices node) kept = own_or_gone node kept
view_index (q.HealthNode node) kept =
    if has_node node kept.rows then max (own_or_gone node kept) (own_checks node kept) else own_or_gone node kept
view_index other kept = kept_index other kept

-- just the service names that have rows, and the nodes that are there, have a position of their own
pub record NamesFit (kept : Kept) : Type 0 where
  pub each : (name : List ℕ) → is_some (own_position name kept.names) ≡ has_name name kept.rows
  pub hosts : (node : List ℕ) → is_some (own_position node kept.hosts) ≡ has_node node kept.rows

-- what the tables keep, with the version of the log's machine, stands for the log
pub record Stands (kept : Kept) (log : List Command) : Type 0 where
  pub names : NamesFit kept
  pub keeps : StandsFor (kept_at (catalog_at log).version kept) log
