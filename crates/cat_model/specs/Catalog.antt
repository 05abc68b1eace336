-- The catalog: the version of its machine, and six lists of rows, each in the order of its keys.
use Rattle.std.specs.Prelude.{ℕ, Bool, List, [], Option, nat_eq, ◌&&◌}
use Rattle.std.specs.Ordering.{nat_cmp}
use Rattle.std.specs.Cmp.Lexicographic.{pointwise}
use Rattle.cat_model.specs.Keys.{text_cmp, pair_cmp}
use Rattle.cat_model.specs.Tables.{row_at, Ascends}
use Rattle.cat_model.specs.Same.{same_node, same_service, same_check, same_kv, same_session, same_query}
use Rattle.cat_model.specs.declared.row.KvRow.{KvRow}
use Rattle.cat_model.specs.declared.row.NodeRow.{NodeRow}
use Rattle.cat_model.specs.declared.row.ServiceRow.{ServiceRow}
use Rattle.cat_model.specs.declared.row.CheckRow.{CheckRow}
use Rattle.cat_model.specs.declared.row.SessionRow.{SessionRow}
use Rattle.cat_model.specs.declared.row.QueryRow.{QueryRow}

pub record Catalog : Type 0 where
  pub version : ℕ
  pub nodes : List NodeRow
  pub services : List ServiceRow
  pub checks : List CheckRow
  pub kv : List KvRow
  pub sessions : List SessionRow
  pub queries : List QueryRow

abbrev pub empty_catalog : Catalog
empty_catalog = record { version = 1; nodes = []; services = []; checks = []; kv = []; sessions = []; queries = [] }

-- keys
abbrev pub node_key : NodeRow → List ℕ
node_key r = r.node

abbrev pub service_key : ServiceRow → List ℕ × List ℕ
service_key r = (r.node, r.id)

abbrev pub check_key : CheckRow → List ℕ × List ℕ
check_key r = (r.node, r.id)

abbrev pub kv_key : KvRow → List ℕ
kv_key r = r.key

abbrev pub session_key : SessionRow → ℕ
session_key r = r.id

abbrev pub query_key : QueryRow → ℕ
query_key r = r.id

-- the row of a key
abbrev pub node_at : List ℕ → List NodeRow → Option NodeRow
node_at = row_at text_cmp node_key

abbrev pub service_at : List ℕ × List ℕ → List ServiceRow → Option ServiceRow
service_at = row_at pair_cmp service_key

abbrev pub check_at : List ℕ × List ℕ → List CheckRow → Option CheckRow
check_at = row_at pair_cmp check_key

abbrev pub kv_at : List ℕ → List KvRow → Option KvRow
kv_at = row_at text_cmp kv_key

abbrev pub session_at : ℕ → List SessionRow → Option SessionRow
session_at = row_at nat_cmp session_key

abbrev pub query_at : ℕ → List QueryRow → Option QueryRow
query_at = row_at nat_cmp query_key

-- whether two catalogs are equal
unfoldable pub same_catalog : Catalog → Catalog → Bool
same_catalog a b =
    nat_eq a.version b.version
    && pointwise same_node a.nodes b.nodes && pointwise same_service a.services b.services && pointwise same_check a.checks b.checks
    && pointwise same_kv a.kv b.kv && pointwise same_session a.sessions b.sessions && pointwise same_query a.queries b.queries

-- each list is in the order of its keys
pub record InOrder (k : Catalog) : Type 0 where
  pub nodes : Ascends text_cmp node_key k.nodes
  pub services : Ascends pair_cmp service_key k.services
  pub checks : Ascends pair_cmp check_key k.checks
  pub kv : Ascends text_cmp kv_key k.kv
  pub sessions : Ascends nat_cmp session_key k.sessions
  pub queries : Ascends nat_cmp query_key k.queries
