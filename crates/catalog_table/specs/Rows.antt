-- The nodes, services and checks of a catalog.
use Rattle.std.specs.Prelude.{ℕ, Bool, not, List, [], filter}
use Rattle.cat_model.specs.Keys.{text_cmp, pair_cmp, same_text}
use Rattle.cat_model.specs.Tables.{Ascends}
use Rattle.cat_model.specs.Catalog.{Catalog, empty_catalog, node_key, service_key, check_key}
use Rattle.cat_model.specs.declared.row.NodeRow.{NodeRow}
use Rattle.cat_model.specs.declared.row.ServiceRow.{ServiceRow}
use Rattle.cat_model.specs.declared.row.CheckRow.{CheckRow}

-- three of the catalog's lists
pub record Rows : Type 0 where
  pub nodes : List NodeRow
  pub services : List ServiceRow
  pub checks : List CheckRow

abbrev pub no_rows : Rows
no_rows = record { nodes = []; services = []; checks = [] }

-- the rows as they are, and as they stood at the last `keep`
pub record RowsVersions : Type 0 where
  pub now : Rows
  pub before : Rows

abbrev pub rows_of : Catalog → Rows
rows_of k = record { nodes = k.nodes; services = k.services; checks = k.checks }

-- the catalog with these rows alone
abbrev pub catalog_of : Rows → Catalog
catalog_of r = record empty_catalog { nodes = r.nodes; services = r.services; checks = r.checks }

-- each list is in the order of its keys
pub record InOrder (r : Rows) : Type 0 where
  pub nodes : Ascends text_cmp node_key r.nodes
  pub services : Ascends pair_cmp service_key r.services
  pub checks : Ascends pair_cmp check_key r.checks

-- the rows of the nodes whose name passes the test
abbrev pub part : (List ℕ → Bool) → Rows → Rows
part test r =
    record {
      nodes = filter (λ (x : NodeRow). test x.node) r.nodes;
      services = filter (λ (x : ServiceRow). test x.node) r.services;
      checks = filter (λ (x : CheckRow). test x.node) r.checks;
    }

-- the rows of one node, and those of the others
abbrev pub is_node : List ℕ → List ℕ → Bool
is_node node name = same_text name node

abbrev pub on_node : List ℕ → Rows → Rows
on_node node = part (is_node node)

abbrev pub off_node : List ℕ → Rows → Rows
off_node node = part (λ name. not (is_node node name))
