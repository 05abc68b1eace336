-- What the store's tables keep stands for its log.
use Rattle.std.proofs.Common.{◌≡◌, ◌∙◌, List, ap, sym}
use Rattle.cat_model.specs.Machine.{catalog_at}
use Rattle.cat_model.specs.Indexes.{has_name, has_node}
use Rattle.cat_model.specs.declared.command.Command.{Command}
use Rattle.cat_model.specs.declared.row.SessionRow.{SessionRow}
use Rattle.cat_model.specs.declared.row.QueryRow.{QueryRow}
use Rattle.kv_table.specs.States.{KvState}
use Rattle.catalog_table.specs.Rows.{Rows}
use Rattle.touch_positions.specs.States.{IndexState}
use Rattle.catalog_store.specs.Standing.{KeysStand, RowsStand, PositionsStand}
use Rattle.catalog_query.specs.Standing.{rows_of, rows_at, kept_of, Stands}

module _ (kv : KvState) (rows : Rows) (sessions : List SessionRow) (queries : List QueryRow) (index : IndexState) (log : List Command)
    (keys : KeysStand kv log) (lists : RowsStand rows log) (same_sessions : sessions ≡ (catalog_at log).sessions) (same_queries : queries ≡ (catalog_at log).queries) where
  rows_stand : rows_at (catalog_at log).version (rows_of kv rows sessions queries) ≡ catalog_at log
  rows_stand = λ i. record {
    version = (catalog_at log).version;
    nodes = (lists i).nodes;
    services = (lists i).services;
    checks = (lists i).checks;
    kv = keys.rows i;
    sessions = same_sessions i;
    queries = same_queries i;
  }

  pub tables_stand : PositionsStand index log → Stands (kept_of kv rows sessions queries index) log
  tables_stand positions =
      record {
        names =
            record {
              each = λ name. positions.own name ∙ sym (ap (λ k. has_name name k) rows_stand);
              hosts = λ node. positions.own_hosts node ∙ sym (ap (λ k. has_node node k) rows_stand);
            };
        keeps =
            record {
              rows = rows_stand;
              keys = keys.indexes;
              nodes = positions.nodes;
              services = positions.services;
              checks = positions.checks;
              sessions = positions.sessions;
              queries = positions.queries;
              names = positions.names;
              vanished = positions.vanished;
              hosts = positions.hosts;
              host_checks = positions.host_checks;
              gone = positions.gone;
            };
      }
