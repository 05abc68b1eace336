-- An agent over plain values: its own services and checks with its clock, and what it is asked to do with them.
-- Consul, HTTP API, "Agent": the endpoints of services and of checks with a TTL; "Anti-Entropy".
use Rattle.std.specs.Prelude.{ℕ, ◌+◌, ◌/◌, ◌%◌, nat_le, nat_lt, not, ◌&&◌, ◌||◌, Bool, true, false, if◌then◌else◌, List, [], ◌∷◌, ◌++◌, map, filter, is_some, Option, Some, None, codes}
use Rattle.std.specs.List.{list_any}
use Rattle.cat_model.specs.Keys.{pair_cmp, same_text, is_empty}
use Rattle.cat_model.specs.Tables.{row_at, put, without}
use Rattle.cat_model.specs.Catalog.{Catalog, service_key, check_key, node_at, service_at}
use Rattle.cat_model.specs.Syncs.{serf_id}
use Rattle.cat_model.specs.declared.row.NodeRow.{NodeRow}
use Rattle.cat_model.specs.declared.row.ServiceRow.{ServiceRow}
use Rattle.cat_model.specs.declared.row.CheckRow.{CheckRow}
use Rattle.cat_model.specs.declared.row.Status.{Status}
use Rattle.cat_model.specs.declared.row.Status.TheVariants.{Passing, Critical}
use Rattle.cat_model.specs.declared.query.CheckView.{CheckView}
use Rattle.cat_model.specs.declared.fired.Local.{Local}
use Rattle.cat_model.specs.declared.fired.Remote.{Remote}
use Rattle.cat_model.specs.declared.request.ServiceDef.{ServiceDef}
use Rattle.cat_model.specs.declared.request.TtlDef.{TtlDef}
use Rattle.cat_model.specs.declared.request.AgentOp.{AgentOp}
use Rattle.cat_model.specs.declared.request.AgentOp.TheVariants as op
use Rattle.cluster_rules.specs.AgentBodies.{services_body, checks_body}

-- the name of an agent's node; agents are numbered up to 64
abbrev pub digits : ℕ → List ℕ
digits n = if nat_lt n 10 then (48 + n) ∷ [] else (48 + n / 10) ∷ (48 + n % 10) ∷ []

abbrev pub agent_node : ℕ → List ℕ
agent_node agent = codes "agent-" ++ digits agent

-- a check with its TTL, and since when that counts by the agent's clock
pub record Watched : Type 0 where
  pub row : CheckRow
  pub ttl : ℕ
  pub since : ℕ

-- An agent's services and checks in the order of their IDs, without its own check, which is always there and passes.
pub record Agent : Type 0 where
  pub services : List ServiceRow
  pub checks : List Watched
  pub clock : ℕ
  pub next_sync : ℕ

abbrev pub new_agent : Agent
new_agent = record { services = []; checks = []; clock = 0; next_sync = 60000 }

-- its node, and the check that it has of it
abbrev pub node_row : ℕ → NodeRow
node_row a = record { node = agent_node a; address = codes "127.0.0.1"; create = 0; modify = 0 }

abbrev pub serf_row : ℕ → CheckRow
serf_row a = record { node = agent_node a; id = serf_id; name = codes "Serf Health Status"; status = Passing; notes = []; output = []; service = []; create = 0; modify = 0 }

-- its rows
abbrev pub local_of : ℕ → Agent → Local
local_of a g = record { node = Some (node_row a); services = g.services; checks = serf_row a ∷ map (λ (w : Watched). w.row) g.checks }

-- the catalog's rows of its node
abbrev pub remote_of : List ℕ → Catalog → Remote
remote_of node k = record {
  node = node_at node k.nodes;
  services = filter (λ s. same_text s.node node) k.services;
  checks = filter (λ r. same_text r.node node) k.checks;
}

-- rows as they are asked for
abbrev pub service_row : ℕ → ServiceDef → ServiceRow
service_row a s = record { node = agent_node a; id = s.id; name = s.name; tags = s.tags; address = s.address; port = s.port; tag_override = s.tag_override; create = 0; modify = 0 }

abbrev pub watched : ℕ → ℕ → TtlDef → Watched
watched a now t = record {
  row = record { node = agent_node a; id = t.id; name = t.name; status = t.status; notes = t.notes; output = []; service = t.service; create = 0; modify = 0 };
  ttl = t.ttl_ms;
  since = now;
}

abbrev pub watched_key : Watched → List ℕ × List ℕ
watched_key w = check_key w.row

-- one more check, or another in the place of the one with its ID
abbrev pub watch : ℕ → TtlDef → Agent → Agent
watch a t g = record g { checks = put pair_cmp watched_key (watched a g.clock t) g.checks }

abbrev pub watch_all : ℕ → List TtlDef → Agent → Agent
watch_all a [] g = g
watch_all a (t ∷ ts) g = watch_all a ts (watch a t g)

abbrev pub has_service : ℕ → List ℕ → Agent → Bool
has_service a id g = is_some (service_at (agent_node a, id) g.services)

abbrev pub has_check : ℕ → List ℕ → Agent → Bool
has_check a id g = is_some (row_at pair_cmp watched_key (agent_node a, id) g.checks)

-- a check with another status, which counts anew
abbrev pub noted_check : List ℕ → Status → List ℕ → ℕ → Watched → Watched
noted_check id status output now w = if same_text w.row.id id then record w { row = record w.row { status = status; output = output }; since = now } else w

-- What an agent does with a request: the agent afterwards, or None where what the request names is not there or is the
-- agent's own check.
abbrev pub change : ℕ → AgentOp → Agent → Option Agent
change a op.Services g = Some g
change a op.Checks g = Some g
change a (op.AddService service checks) g =
    if list_any (λ (t : TtlDef). same_text t.id serf_id) checks then None
    else Some (watch_all a checks (record g { services = put pair_cmp service_key (service_row a service) g.services }))
change a (op.DropService id) g =
    if has_service a id g
    then Some (record g { services = without (λ s. same_text s.id id) g.services; checks = without (λ (w : Watched). same_text w.row.service id) g.checks })
    else None
change a (op.AddCheck check) g =
    if not (same_text check.id serf_id) && (is_empty check.service || has_service a check.service g) then Some (watch a check g) else None
change a (op.DropCheck id) g = if has_check a id g then Some (record g { checks = without (λ (w : Watched). same_text w.row.id id) g.checks }) else None
change a (op.Mark id status output) g = if has_check a id g then Some (record g { checks = map (noted_check id status output g.clock) g.checks }) else None

-- What it doesn't know, where it refuses: its own check, under whose ID no other is added, counts as unknown.
abbrev pub unknown : AgentOp → List ℕ
unknown (op.AddService service checks) = codes "Unknown check"
unknown (op.AddCheck check) = if same_text check.id serf_id then codes "Unknown check" else codes "Unknown service"
unknown (op.DropCheck id) = codes "Unknown check"
unknown (op.Mark id status output) = codes "Unknown check"
unknown other = codes "Unknown service"

-- A request that changes the agent, so that a sync follows it.
abbrev pub changes : AgentOp → Bool
changes op.Services = false
changes op.Checks = false
changes other = true

-- a check with the name of its service, where that is local
abbrev pub name_of : Option ServiceRow → List ℕ
name_of None = []
name_of (Some s) = s.name

abbrev pub view_of : List ServiceRow → CheckRow → CheckView
view_of services r = record { row = r; service_name = if is_empty r.service then [] else name_of (service_at (r.node, r.service) services) }

-- the body of the agent's answer; a change has none
abbrev pub agent_body : ℕ → AgentOp → Agent → List ℕ
agent_body a op.Services g = services_body g.services
agent_body a op.Checks g = checks_body (map (view_of g.services) (local_of a g).checks)
agent_body a other g = []

-- Time goes on by the agent's clock: a check whose TTL is over turns critical.
abbrev pub expired : ℕ → Watched → Watched
expired now w = if nat_le (w.since + w.ttl) now then record w { row = record w.row { status = Critical; output = codes "TTL expired" } } else w

-- the time of a sync has come
abbrev pub wants_sync : ℕ → Agent → Bool
wants_sync ms g = nat_le g.next_sync (g.clock + ms)

abbrev pub ticked : ℕ → Agent → Agent
ticked ms g = record {
  services = g.services;
  checks = map (expired (g.clock + ms)) g.checks;
  clock = g.clock + ms;
  next_sync = if wants_sync ms g then g.clock + ms + 60000 else g.next_sync;
}
