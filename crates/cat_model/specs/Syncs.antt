-- Anti-entropy: an agent makes the catalog's rows of its node equal to its own.
-- Consul, "Anti-Entropy"; Agent, Register Service (EnableTagOverride); Catalog, Register Entity and Deregister Entity.
use Rattle.std.specs.Prelude.{◌≡◌, ◌≢◌, ℕ, ◌+◌, Bool, true, not, if◌then◌else◌, List, [], ◌∷◌, ◌++◌, Option, Some, None, ◌&&◌, ◌||◌, filter, is_some, codes, map}
use Rattle.std.specs.List.{AllByRecursion, list_any}
use Rattle.std.specs.declared.cmp.Ordering.{Ordering}
use Rattle.cat_model.specs.Keys.{pair_cmp, same_text, is_empty}
use Rattle.cat_model.specs.Tables.{put, same_found}
use Rattle.cat_model.specs.Same.{alike_nodes, alike_services, alike_checks}
use Rattle.cat_model.specs.Catalog.{Catalog, node_at, service_at, check_at, service_key, check_key}
use Rattle.cat_model.specs.Machine.{apply}
use Rattle.cat_model.specs.declared.row.NodeRow.{NodeRow}
use Rattle.cat_model.specs.declared.row.ServiceRow.{ServiceRow}
use Rattle.cat_model.specs.declared.row.CheckRow.{CheckRow}
use Rattle.cat_model.specs.declared.command.NewService.{NewService}
use Rattle.cat_model.specs.declared.command.NewCheck.{NewCheck}
use Rattle.cat_model.specs.declared.command.Command.{Command}
use Rattle.cat_model.specs.declared.command.Command.TheVariants.{Register, Deregister}
use Rattle.cat_model.specs.declared.fired.Local.{Local}
use Rattle.cat_model.specs.declared.fired.Remote.{Remote}

-- rows in the order of their keys, whatever their order was
abbrev pub in_order : {K R : Type 0} → (K → K → Ordering) → (R → K) → List R → List R
in_order cmp key [] = []
in_order cmp key (r ∷ rows) = put cmp key r (in_order cmp key rows)

-- The tags: a local service that allows it takes those of the catalog's service.
abbrev pub tags_or : List (List ℕ) → Option ServiceRow → List (List ℕ)
tags_or own None = own
tags_or own (Some there) = there.tags

abbrev pub merged_service : List ServiceRow → ServiceRow → ServiceRow
merged_service remote s = if s.tag_override then record s { tags = tags_or s.tags (service_at (s.node, s.id) remote) } else s

unfoldable pub merged : Local → Remote → Local
merged local remote = record local { services = map (merged_service remote.services) local.services }

-- The plan. create and modify are not compared.
abbrev pub new_service : ServiceRow → NewService
new_service s = record { id = s.id; name = s.name; tags = s.tags; address = s.address; port = s.port; tag_override = s.tag_override }

abbrev pub new_check : CheckRow → NewCheck
new_check c = record { id = c.id; name = c.name; status = c.status; notes = c.notes; output = c.output; service = c.service }

-- the catalog's row differs from the local one, or is missing
abbrev pub lacks_node : Option NodeRow → NodeRow → Bool
lacks_node remote n = not (same_found alike_nodes remote (Some n))

abbrev pub lacks_service : List ServiceRow → ServiceRow → Bool
lacks_service remote s = not (same_found alike_services (service_at (s.node, s.id) remote) (Some s))

abbrev pub lacks_check : List CheckRow → CheckRow → Bool
lacks_check remote c = not (same_found alike_checks (check_at (c.node, c.id) remote) (Some c))

-- a catalog row that is not local
abbrev pub is_alien_service : List ServiceRow → ServiceRow → Bool
is_alien_service local s = not (is_some (service_at (s.node, s.id) local))

abbrev pub is_alien_check : List CheckRow → CheckRow → Bool
is_alien_check local c = not (is_some (check_at (c.node, c.id) local))

-- the check's service is a catalog's that is not local, so that it goes with that one
abbrev pub goes_along : List ServiceRow → List ServiceRow → CheckRow → Bool
goes_along local remote c = not (is_empty c.service) && not (is_some (service_at (c.node, c.service) local)) && is_some (service_at (c.node, c.service) remote)

-- the commands on a service or a check of this node
abbrev pub registers_service : NodeRow → ServiceRow → Command
registers_service n s = Register n.node n.address (Some (new_service s)) []

abbrev pub registers_checks : NodeRow → List CheckRow → Command
registers_checks n checks = Register n.node n.address None (map new_check checks)

-- the check that each agent has of its own node
abbrev pub serf_id : List ℕ
serf_id = codes "serfHealth"

abbrev pub is_serf : CheckRow → Bool
is_serf c = same_text c.id serf_id

abbrev pub listed : Option CheckRow → List CheckRow
listed None = []
listed (Some c) = c ∷ []

-- one Register with the node and that check, where either is missing or different
abbrev pub node_plan : NodeRow → List CheckRow → Remote → List Command
node_plan n serf remote = if lacks_node remote.node n || list_any (lacks_check remote.checks) serf then registers_checks n serf ∷ [] else []

abbrev pub services_in_order : List ServiceRow → List ServiceRow
services_in_order = in_order pair_cmp service_key

abbrev pub checks_in_order : List CheckRow → List CheckRow
checks_in_order = in_order pair_cmp check_key

abbrev pub other_checks : Local → List CheckRow
other_checks local = filter (λ c. not (is_serf c)) (checks_in_order local.checks)

unfoldable pub plan_of : NodeRow → Local → Remote → List Command
plan_of n local remote =
    node_plan n (listed (check_at (n.node, serf_id) local.checks)) remote
    ++ map (registers_service n) (filter (lacks_service remote.services) (services_in_order local.services))
    ++ map (λ c. registers_checks n (c ∷ [])) (filter (lacks_check remote.checks) (other_checks local))
    ++ map (λ s. Deregister n.node s.id []) (filter (is_alien_service local.services) (services_in_order remote.services))
    ++ map (λ c. Deregister n.node [] c.id) (filter (λ c. is_alien_check local.checks c && not (goes_along local.services remote.services c)) (checks_in_order remote.checks))

-- The plan of a sync, by IDs within each part. A local without a node row plans nothing.
abbrev pub plan : Local → Remote → List Command
plan local remote = of local.node
  where
    of : Option NodeRow → List Command
    of None = []
    of (Some n) = plan_of n local remote

-- the catalog's rows of a node
pub record HasRemote (name : List ℕ) (remote : Remote) (k : Catalog) : Type 0 where
  pub node : remote.node ≡ node_at name k.nodes
  pub services : remote.services ≡ filter (λ s. same_text s.node name) k.services
  pub checks : remote.checks ≡ filter (λ c. same_text c.node name) k.checks

-- Synced: of each ID the catalog and the agent have rows that are alike, or both have none.
pub record Synced (n : NodeRow) (local : Local) (k : Catalog) : Type 0 where
  pub node : same_found alike_nodes (node_at n.node k.nodes) (Some n) ≡ true
  pub services : (id : List ℕ) → same_found alike_services (service_at (n.node, id) k.services) (service_at (n.node, id) local.services) ≡ true
  pub checks : (id : List ℕ) → same_found alike_checks (check_at (n.node, id) k.checks) (check_at (n.node, id) local.checks) ≡ true

-- the catalog after these commands, of which the first is at position i
unfoldable pub all_applied : ℕ → List Command → Catalog → Catalog
all_applied i [] k = k
all_applied i (c ∷ cs) k = all_applied (i + 1) cs (apply i c k).0

-- Rows that a sync can make equal: all are of one node, no ID is empty, each local check is the node's own or of a local
-- service, and the agent's own check is the node's.
pub record IsSyncable (n : NodeRow) (local : Local) (remote : Remote) : Type 0 where
  pub services : AllByRecursion (λ s. (s.node ≡ n.node) × (s.id ≢ [])) local.services
  pub checks : AllByRecursion (λ c. (c.node ≡ n.node) × (c.id ≢ [])) local.checks
  pub of_service : AllByRecursion (λ c. is_empty c.service || is_some (service_at (n.node, c.service) local.services) ≡ true) local.checks
  pub serf : AllByRecursion (λ c. is_serf c ≡ true → c.service ≡ []) local.checks
  pub remote_services : AllByRecursion (λ s. s.id ≢ []) remote.services
  pub remote_checks : AllByRecursion (λ c. c.id ≢ []) remote.checks

-- all local rows are of one node
pub record IsOfNode (n : NodeRow) (local : Local) : Type 0 where
  pub services : AllByRecursion (λ s. s.node ≡ n.node) local.services
  pub checks : AllByRecursion (λ c. c.node ≡ n.node) local.checks

-- The plan law. A plan is empty where the catalog is synced already, and only there.
pub record PlanLaw (n : NodeRow) (local : Local) (remote : Remote) (k : Catalog) : Type 0 where
  pub only : plan local remote ≡ [] → Synced n local k
  pub where_synced : Synced n local k → plan local remote ≡ []

-- Taking tags over changes no node, no check and no ID: what a sync can make equal, it can make equal after it.
pub record MergeLaw (n : NodeRow) (local : Local) (remote : Remote) : Type 0 where
  pub node : (merged local remote).node ≡ local.node
  pub checks : (merged local remote).checks ≡ local.checks
  pub syncable : IsSyncable n local remote → IsSyncable n (merged local remote) remote
