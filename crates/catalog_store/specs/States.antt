-- What the tables of a store hold.
use Rattle.std.specs.Prelude.{ℕ, List, []}
use Rattle.cat_model.specs.Catalog.{Catalog}
use Rattle.cat_model.specs.Views.{Kept}
use Rattle.cat_model.specs.declared.row.SessionRow.{SessionRow}
use Rattle.cat_model.specs.declared.row.QueryRow.{QueryRow}
use Rattle.kv_table.specs.States.{KvState, empty_state}
use Rattle.catalog_table.specs.Rows.{Rows, no_rows}
use Rattle.touch_positions.specs.States.{IndexState, first_state}
use Rattle.catalog_store.specs.declared.tables.Tables.{Tables}

-- the version of the machine, the rows, and the positions of the last changes
pub record State : Type 0 where
  pub version : ℕ
  pub keys : KvState
  pub rows : Rows
  pub sessions : List SessionRow
  pub queries : List QueryRow
  pub index : IndexState

-- before the first command
abbrev pub first : State
first = record { version = 1; keys = empty_state; rows = no_rows; sessions = []; queries = []; index = first_state }

-- the tables as they are, and as they stood at the last `keep`
abbrev pub now_of : Tables → State
now_of t = record { version = t.version; keys = t.kv.now; rows = t.catalog.now; sessions = t.sessions.now; queries = t.queries.now; index = t.indexes.now }

abbrev pub before_of : Tables → State
before_of t = record { version = t.kept_version; keys = t.kv.before; rows = t.catalog.before; sessions = t.sessions.before; queries = t.queries.before; index = t.indexes.before }

-- the rows of the tables, as a catalog
abbrev pub whole : State → Catalog
whole s = record { version = s.version; nodes = s.rows.nodes; services = s.rows.services; checks = s.rows.checks; kv = s.keys.rows; sessions = s.sessions; queries = s.queries }

abbrev pub kept_of : State → Kept
kept_of s =
    record {
      rows = whole s;
      tombs = s.keys.tombs;
      floor = s.keys.floor;
      nodes = s.index.nodes;
      services = s.index.services;
      checks = s.index.checks;
      sessions = s.index.sessions;
      queries = s.index.queries;
      names = s.index.names;
      vanished = s.index.vanished;
      hosts = s.index.hosts;
      host_checks = s.index.host_checks;
      gone = s.index.gone;
    }
