-- The channels on which a waiting query hangs, and those that a step fires.
use Rattle.std.specs.Prelude.{◌≡◌, ℕ, Bool, true, false, not, if◌then◌else◌, List, [], ◌∷◌, ◌++◌, is_some, Contains}
use Rattle.std.specs.Cmp.Lexicographic.{pointwise}
use Rattle.cat_model.specs.Keys.{has_prefix}
use Rattle.cat_model.specs.Tables.{same_found}
use Rattle.cat_model.specs.Same.{same_node, same_service, same_check, same_kv, same_session, same_query}
use Rattle.cat_model.specs.Catalog.{Catalog, same_catalog, kv_at}
use Rattle.cat_model.specs.Queries.{service_rows, node_rows, checks_of}
use Rattle.cat_model.specs.Indexes.{has_name, some_vanishes, has_node, some_node_goes, is_reap, touches}
use Rattle.cat_model.specs.Machine.{catalog_at}
use Rattle.cat_model.specs.declared.query.Query.{Query}
use Rattle.cat_model.specs.declared.query.Query.TheVariants as q
use Rattle.cat_model.specs.declared.command.Command.{Command}
use Rattle.cat_model.specs.declared.query.Chan.{Chan}
use Rattle.cat_model.specs.declared.query.Chan.TheVariants.{Nodes, Services, Checks, Sessions, Queries, Service, Vanished, Node, NodeChecks, NodeGone, Key, Prefix, Reaped}

abbrev pub service_chans : List ℕ → Catalog → List Chan
service_chans name k = Service name ∷ (if has_name name k then [] else Vanished ∷ [])

abbrev pub key_chans : List ℕ → Catalog → List Chan
key_chans key k = Key key ∷ (if is_some (kv_at key k.kv) then [] else Reaped ∷ [])

abbrev pub node_chans : List ℕ → Catalog → List Chan
node_chans node k = Node node ∷ (if has_node node k then [] else NodeGone ∷ [])

abbrev pub node_health_chans : List ℕ → Catalog → List Chan
node_health_chans node k = Node node ∷ (if has_node node k then NodeChecks node else NodeGone) ∷ []

-- the channels of a query at a catalog
unfoldable pub chans : Query → Catalog → List Chan
chans q.Nodes k = Nodes ∷ []
chans q.Services k = Services ∷ []
chans (q.Service name tags) k = service_chans name k
chans (q.NodeServices node) k = node_chans node k
chans (q.HealthService name tags passing) k = service_chans name k
chans (q.HealthChecks name) k = Checks ∷ Services ∷ []
chans (q.HealthNode node) k = node_health_chans node k
chans (q.HealthState state) k = Checks ∷ Services ∷ []
chans (q.Key key) k = key_chans key k
chans (q.Prefix prefix) k = Prefix prefix ∷ Reaped ∷ []
chans (q.Keys prefix separator) k = Prefix prefix ∷ Reaped ∷ []
chans (q.SessionInfo id) k = Sessions ∷ []
chans (q.SessionsOf node) k = Sessions ∷ []
chans q.Sessions k = Sessions ∷ []
chans (q.QueryInfo id) k = Queries ∷ []
chans q.Queries k = Queries ∷ []

-- whether the step by this command, from before to after, fires the channel
unfoldable pub fires : Catalog → Command → Catalog → Chan → Bool
fires before c after Nodes = not (pointwise same_node before.nodes after.nodes)
fires before c after Services = not (pointwise same_service before.services after.services)
fires before c after Checks = not (pointwise same_check before.checks after.checks)
fires before c after Sessions = not (pointwise same_session before.sessions after.sessions)
fires before c after Queries = not (pointwise same_query before.queries after.queries)
fires before c after (Service name) = not (same_catalog (service_rows name before) (service_rows name after))
fires before c after Vanished = some_vanishes before after
fires before c after (Node node) = not (same_catalog (node_rows node before) (node_rows node after))
fires before c after (NodeChecks node) = not (pointwise same_check (checks_of node before) (checks_of node after))
fires before c after NodeGone = some_node_goes before after
fires before c after (Key key) = not (same_found same_kv (kv_at key before.kv) (kv_at key after.kv))
fires before c after (Prefix prefix) = false
fires before c after Reaped = is_reap c

-- a fired channel reaches itself, and a key also the prefixes that it begins with
abbrev pub Reaches : Chan → Chan → Type 0
Reaches (Key key) (Prefix prefix) = has_prefix prefix key ≡ true
Reaches fired chan = fired ≡ chan

-- some channel that the step fires reaches one of these
pub record IsReached (before : Catalog) (c : Command) (after : Catalog) (of : List Chan) : Type 0 where
  pub fired : Chan
  pub chan : Chan
  pub fires : fires before c after fired ≡ true
  pub stands : Contains of chan
  pub reaches : Reaches fired chan

-- The covering law. A step that touches a query fires a channel that reaches one on which the query hung before the step.
abbrev pub CoveringLaw : Query → List Command → Command → Type 0
CoveringLaw q log c =
    touches q (catalog_at log) c (catalog_at (log ++ c ∷ [])) ≡ true
    → IsReached (catalog_at log) c (catalog_at (log ++ c ∷ [])) (chans q (catalog_at log))
