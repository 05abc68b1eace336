-- What a registration or its undoing touches of its node, and which service names' reads that can change.
use Rattle.std.specs.Prelude.{◌≡◌, ℕ, Bool, false, not, if◌then◌else◌, ◌&&◌, ◌||◌, List, [], ◌++◌, Option, Some, None, is_some, filter, map}
use Rattle.std.specs.List.{list_any, filter_map, cons_option}
use Rattle.cat_model.specs.Keys.{is_empty, same_text}
use Rattle.cat_model.specs.Catalog.{node_at, service_at, check_at}
use Rattle.cat_model.specs.Same.{same_node, same_service, same_check}
use Rattle.cat_model.specs.declared.row.NodeRow.{NodeRow}
use Rattle.cat_model.specs.declared.row.ServiceRow.{ServiceRow}
use Rattle.cat_model.specs.declared.row.CheckRow.{CheckRow}
use Rattle.catalog_table.specs.Rows.{Rows, InOrder, is_node, off_node}
use Rattle.cat_model.specs.declared.command.NewService.{NewService}
use Rattle.cat_model.specs.declared.command.NewCheck.{NewCheck}
use Rattle.catalog_table.specs.Edits.{Edits}
use Rattle.catalog_table.specs.Puts.{made_node, node_edits, given_edits, checks_edits}
use Rattle.catalog_table.specs.declared.touched.Touched.{Touched}

abbrev pub service_names : List ServiceRow → List (List ℕ)
service_names = map (λ (s : ServiceRow). s.name)

abbrev pub check_services : List CheckRow → List (List ℕ)
check_services = map (λ (c : CheckRow). c.service)

-- From the old rows to the new ones just rows of the node go and come. Told are whether its own row does, the names of its
-- services that do, and the services of its checks that do.
pub record Touches (node : List ℕ) (old new : Rows) (t : Touched) : Type 0 where
  pub before : InOrder old
  pub after : InOrder new
  pub others : off_node node old ≡ off_node node new
  pub node_edits : List NodeRow
  pub service_edits : List ServiceRow
  pub check_edits : List CheckRow
  pub nodes_edited : Edits same_node old.nodes new.nodes node_edits
  pub services_edited : Edits same_service old.services new.services service_edits
  pub checks_edited : Edits same_check old.checks new.checks check_edits
  pub told : t.nodes ≡ not (is_empty node_edits)
  pub names : t.names ≡ service_names service_edits
  pub served : t.served ≡ check_services check_edits

-- the name of the service, if it is there
abbrev pub name_in : Option ServiceRow → Option (List ℕ)
name_in None = None
name_in (Some s) = Some s.name

-- a read of each name of the node takes something else: its own row was touched, or a check of it alone
abbrev pub is_whole : Touched → Bool
is_whole t = t.nodes || list_any is_empty t.served

-- the names of the node's services now
abbrev pub names_on : List ℕ → Rows → List (List ℕ)
names_on node r = service_names (filter (λ (s : ServiceRow). is_node node s.node) r.services)

-- the names that these services of the node have now
abbrev pub names_served : List ℕ → Rows → List (List ℕ) → List (List ℕ)
names_served node r ids = filter_map (λ id. name_in (service_at (node, id) r.services)) ids

-- the names of which a read takes something else, some of them more than once
abbrev pub names_read : List ℕ → Rows → Touched → List (List ℕ)
names_read node r t = t.names ++ (if is_whole t then names_on node r else names_served node r t.served)

-- what is touched where rows are put
abbrev pub put_touches : ℕ → List ℕ → List ℕ → Option NewService → List NewCheck → Rows → Touched
put_touches i node address service checks r =
    record {
      nodes = not (is_empty (node_edits (node_at node r.nodes) (made_node i node address)));
      names = service_names (given_edits i node service r.services);
      served = check_services (checks_edits i node checks r.checks);
    }

-- and where a service is taken out with its checks, a check, or a node with all its rows
abbrev pub service_touches : List ℕ → List ℕ → Rows → Touched
service_touches node id r =
    record {
      nodes = false;
      names = cons_option (name_in (service_at (node, id) r.services)) [];
      served = check_services (filter (λ c. same_text c.node node && same_text c.service id) r.checks);
    }

abbrev pub check_touches : List ℕ → List ℕ → Rows → Touched
check_touches node id r = record { nodes = false; names = []; served = check_services (cons_option (check_at (node, id) r.checks) []) }

abbrev pub node_touches : List ℕ → Rows → Touched
node_touches node r =
    record {
      nodes = is_some (node_at node r.nodes);
      names = names_on node r;
      served = check_services (filter (λ c. is_node node c.node) r.checks);
    }

abbrev pub take_touches : List ℕ → List ℕ → List ℕ → Rows → Touched
take_touches node service check r =
    if not (is_empty service) then service_touches node service r
    else (if not (is_empty check) then check_touches node check r else node_touches node r)
