-- The catalog machine: what each command does to the catalog, and its answer.
use Rattle.std.specs.Prelude.{ℕ, ◌+◌, Bool, true, false, not, if◌then◌else◌, List, [], ◌∷◌, Option, Some, None, nat_eq, ◌&&◌, ◌||◌, filter, is_some, length, reverse}
use Rattle.std.specs.List.{list_any, filter_map}
use Rattle.std.specs.Ordering.{nat_cmp}
use Rattle.cat_model.specs.Keys.{text_cmp, pair_cmp, same_text, is_empty}
use Rattle.cat_model.specs.Tables.{put, without}
use Rattle.cat_model.specs.Same.{alike_nodes, alike_services, alike_checks, same_status}
use Rattle.cat_model.specs.Catalog.{Catalog, empty_catalog, node_at, service_at, check_at, session_at, query_at, node_key, service_key, check_key, session_key, query_key}
use Rattle.cat_model.specs.Kv.{kv_set, kv_cas, kv_lock, kv_unlock, kv_delete, kv_delete_tree, kv_delete_cas, run_ops, TxnRun, Went, Failed_at}
use Rattle.cat_model.specs.declared.row.KvRow.{KvRow}
use Rattle.cat_model.specs.declared.row.NodeRow.{NodeRow}
use Rattle.cat_model.specs.declared.row.ServiceRow.{ServiceRow}
use Rattle.cat_model.specs.declared.row.CheckRow.{CheckRow}
use Rattle.cat_model.specs.declared.row.SessionRow.{SessionRow}
use Rattle.cat_model.specs.declared.row.QueryRow.{QueryRow}
use Rattle.cat_model.specs.declared.command.NewService.{NewService}
use Rattle.cat_model.specs.declared.command.NewCheck.{NewCheck}
use Rattle.cat_model.specs.declared.row.Status.TheVariants.{Critical}
use Rattle.cat_model.specs.declared.row.Behavior.{Behavior}
use Rattle.cat_model.specs.declared.row.Behavior.TheVariants as behaviors
use Rattle.cat_model.specs.declared.applied.Refuse.{Refuse}
use Rattle.cat_model.specs.declared.applied.Refuse.TheVariants as refusals
use Rattle.cat_model.specs.declared.applied.Applied.{Applied}
use Rattle.cat_model.specs.declared.applied.Applied.TheVariants.{Done, Yes, No, Results, RolledBack, Refused}
use Rattle.cat_model.specs.declared.command.Command.{Command}
use Rattle.cat_model.specs.declared.command.Command.TheVariants.{Noop, Register, Deregister, KvSet, KvCas, KvLock, KvUnlock, KvDelete, KvDeleteCas, KvDeleteTree, Txn, SessionCreate, SessionDestroy, QuerySet, QueryDelete, Reap, Upgrade}

-- A catalog with an answer.
abbrev pub Step : Type 0
Step = Catalog × Applied

-- the first refusal whose test holds
abbrev pub refusal_of : List (Bool × Refuse) → Option Refuse
refusal_of [] = None
refusal_of (r ∷ rs) = if r.0 then Some r.1 else refusal_of rs

-- the step, or the refusal, which leaves the catalog as it was
unfoldable pub unless : Option Refuse → Catalog → Step → Step
unless None k step = step
unless (Some r) k step = (k, Refused r)

-- Keys. A command that may answer No, and one that does not.
abbrev pub on_kv : Catalog → List KvRow → Step
on_kv k rows = (record k { kv = rows }, Yes)

abbrev pub yes_or_no : Catalog → Option (List KvRow) → Step
yes_or_no k None = (k, No)
yes_or_no k (Some rows) = on_kv k rows

abbrev pub txn_end : Catalog → TxnRun → Step
txn_end k (Went rows results) = (record k { kv = rows }, Results results)
txn_end k (Failed_at at verb) = (k, RolledBack at verb)

-- Registration. A row that is equal in all but create and modify stays as it was.
abbrev pub put_node : ℕ → List ℕ → List ℕ → List NodeRow → List NodeRow
put_node i node address rows = putting (node_at node rows)
  where
    fresh : ℕ → NodeRow
    fresh create = record { node = node; address = address; create = create; modify = i }

    putting : Option NodeRow → List NodeRow
    putting None = put text_cmp node_key (fresh i) rows
    putting (Some old) = if alike_nodes old (fresh i) then rows else put text_cmp node_key (fresh old.create) rows

abbrev pub put_service : ℕ → List ℕ → NewService → List ServiceRow → List ServiceRow
put_service i node s rows = putting (service_at (node, s.id) rows)
  where
    fresh : ℕ → ServiceRow
    fresh create = record { node = node; id = s.id; name = s.name; tags = s.tags; address = s.address; port = s.port; tag_override = s.tag_override; create = create; modify = i }

    putting : Option ServiceRow → List ServiceRow
    putting None = put pair_cmp service_key (fresh i) rows
    putting (Some old) = if alike_services old (fresh i) then rows else put pair_cmp service_key (fresh old.create) rows

abbrev pub put_given : ℕ → List ℕ → Option NewService → List ServiceRow → List ServiceRow
put_given i node None rows = rows
put_given i node (Some s) rows = put_service i node s rows

abbrev pub put_check : ℕ → List ℕ → NewCheck → List CheckRow → List CheckRow
put_check i node c rows = putting (check_at (node, c.id) rows)
  where
    fresh : ℕ → CheckRow
    fresh create = record { node = node; id = c.id; name = c.name; status = c.status; notes = c.notes; output = c.output; service = c.service; create = create; modify = i }

    putting : Option CheckRow → List CheckRow
    putting None = put pair_cmp check_key (fresh i) rows
    putting (Some old) = if alike_checks old (fresh i) then rows else put pair_cmp check_key (fresh old.create) rows

abbrev pub put_checks : ℕ → List ℕ → List NewCheck → List CheckRow → List CheckRow
put_checks i node [] rows = rows
put_checks i node (c ∷ cs) rows = put_checks i node cs (put_check i node c rows)

-- of checks with equal ID the last
abbrev pub last_of_each : List NewCheck → List NewCheck
last_of_each [] = []
last_of_each (c ∷ cs) = if list_any (λ d. same_text c.id d.id) cs then last_of_each cs else c ∷ last_of_each cs

-- the check's service is empty, or one of the node
abbrev pub has_service : List ℕ → List ServiceRow → NewCheck → Bool
has_service node rows c = is_empty c.service || is_some (service_at (node, c.service) rows)

unfoldable pub register : ℕ → List ℕ → List ℕ → Option NewService → List NewCheck → Catalog → Step
register i node address service checks k =
    let services = put_given i node service k.services in
    let counting = last_of_each checks in
    unless (refusal_of ((list_any (λ c. not (has_service node services c)) counting, refusals.MissingService) ∷ [])) k
    (record k { nodes = put_node i node address k.nodes; services = services; checks = put_checks i node counting k.checks }, Yes)

abbrev pub deregister_service : List ℕ → List ℕ → Catalog → Catalog
deregister_service node id k =
    record k {
      services = without (λ r. same_text r.node node && same_text r.id id) k.services;
      checks = without (λ r. same_text r.node node && same_text r.service id) k.checks;
    }

abbrev pub deregister_check : List ℕ → List ℕ → Catalog → Catalog
deregister_check node id k = record k { checks = without (λ r. same_text r.node node && same_text r.id id) k.checks }

abbrev pub deregister_node : List ℕ → Catalog → Catalog
deregister_node node k =
    record k {
      nodes = without (λ r. same_text r.node node) k.nodes;
      services = without (λ r. same_text r.node node) k.services;
      checks = without (λ r. same_text r.node node) k.checks;
    }

unfoldable pub deregister : List ℕ → List ℕ → List ℕ → Catalog → Catalog
deregister node service check k =
    if not (is_empty service) then deregister_service node service k
    else (if not (is_empty check) then deregister_check node check k else deregister_node node k)

-- Sessions.
-- the first check that is missing or critical, as a refusal
abbrev pub check_refusal : Option CheckRow → Option Refuse → Option Refuse
check_refusal None rest = Some refusals.MissingCheck
check_refusal (Some c) rest = if same_status c.status Critical then Some refusals.CriticalCheck else rest

abbrev pub checks_refusal : List ℕ → List (List ℕ) → List CheckRow → Option Refuse
checks_refusal node [] rows = None
checks_refusal node (id ∷ ids) rows = check_refusal (check_at (node, id) rows) (checks_refusal node ids rows)

abbrev pub or_else : Option Refuse → Option Refuse → Option Refuse
or_else None rest = rest
or_else (Some r) rest = Some r

unfoldable pub create_session : SessionRow → Catalog → Step
create_session s k =
    unless (or_else (refusal_of ((is_some (session_at s.id k.sessions), refusals.IdTaken) ∷ (not (is_some (node_at s.node k.nodes)), refusals.MissingNode) ∷ [])) (checks_refusal s.node s.checks k.checks)) k
    (record k { sessions = put nat_cmp session_key s k.sessions }, Done)

-- its node is absent, or one of its checks is absent or critical
unfoldable pub broken : Catalog → SessionRow → Bool
broken k s = not (is_some (node_at s.node k.nodes)) || is_some (checks_refusal s.node s.checks k.checks)

-- Queries.
abbrev pub create_of : ℕ → Option QueryRow → ℕ
create_of i None = i
create_of i (Some old) = old.create

abbrev pub session_known : Catalog → Option ℕ → Bool
session_known k None = true
session_known k (Some id) = is_some (session_at id k.sessions)

abbrev pub other_has_name : QueryRow → List QueryRow → Bool
other_has_name q rows = not (is_empty q.name) && list_any (λ r. not (nat_eq r.id q.id) && same_text r.name q.name) rows

unfoldable pub set_query : Bool → QueryRow → Catalog → Step
set_query create q k =
    let old = query_at q.id k.queries in
    unless (refusal_of (
    (create && is_some old, refusals.IdTaken)
    ∷ (not create && not (is_some old), refusals.UnknownQuery)
    ∷ (not (session_known k q.session), refusals.UnknownSession)
    ∷ (other_has_name q k.queries, refusals.NameTaken)
    ∷ [])) k
    (record k { queries = put nat_cmp query_key (record q { create = create_of q.create old }) k.queries }, Done)

-- what a command at position i does, before sessions end
unfoldable pub act : ℕ → Command → Catalog → Step
act i Noop k = (k, Done)
act i (Register node address service checks) k = register i node address service checks k
act i (Deregister node service check) k = (deregister node service check k, Yes)
act i (KvSet key flags value) k = on_kv k (kv_set k.version i key value flags k.kv)
act i (KvCas key flags value index) k = yes_or_no k (kv_cas k.version i key value flags index k.kv)
act i (KvLock key flags value session) k = unless (refusal_of ((not (is_some (session_at session k.sessions)), refusals.UnknownSession) ∷ [])) k (yes_or_no k (kv_lock k.version i key value flags session k.kv))
act i (KvUnlock key flags value session) k = yes_or_no k (kv_unlock k.version i key value flags session k.kv)
act i (KvDelete key) k = on_kv k (kv_delete key k.kv)
act i (KvDeleteCas key index) k = yes_or_no k (kv_delete_cas key index k.kv)
act i (KvDeleteTree prefix) k = on_kv k (kv_delete_tree prefix k.kv)
act i (Txn ops) k = txn_end k (run_ops k.version i k.sessions 0 ops k.kv [])
act i (SessionCreate id name node checks behavior delay_ms ttl_ms) k =
    create_session (record { id = id; name = name; node = node; checks = checks; behavior = behavior; delay_ms = delay_ms; ttl_ms = ttl_ms; create = i; modify = i }) k
act i (SessionDestroy id) k = (k, Yes)
act i (QuerySet id create name session service only_passing tags dns_ttl_ms) k =
    set_query create (record { id = id; name = name; session = session; service = service; only_passing = only_passing; tags = tags; dns_ttl_ms = dns_ttl_ms; create = i; modify = i }) k
act i (QueryDelete id) k = (record k { queries = without (λ r. nat_eq r.id id) k.queries }, Done)
act i Reap k = (k, Done)
act i Upgrade k = (record k { version = 2 }, Yes)

-- the session that a destroy names
abbrev pub names : Command → SessionRow → Bool
names (SessionDestroy id) s = nat_eq s.id id
names c s = false

-- a session that ends after the command
abbrev pub ends : Command → Catalog → SessionRow → Bool
ends c k s = broken k s || names c s

-- the row after these sessions ended: as it was, released, or gone
abbrev pub freed_row : ℕ → KvRow → Option SessionRow → Option KvRow
freed_row i r None = Some r
freed_row i r (Some s) = by s.behavior
  where
    by : Behavior → Option KvRow
    by behaviors.Release = Some (record r { session = None; modify = i })
    by behaviors.Delete = None

abbrev pub ended_holder : List SessionRow → Option ℕ → Option SessionRow
ended_holder gone None = None
ended_holder gone (Some id) = session_at id gone

unfoldable pub end_sessions : ℕ → List SessionRow → Catalog → Catalog
end_sessions i gone k =
    record k {
      sessions = without (λ s. is_some (session_at s.id gone)) k.sessions;
      kv = filter_map (λ r. freed_row i r (ended_holder gone r.session)) k.kv;
      queries = without (λ q. is_some (ended_holder gone q.session)) k.queries;
    }

-- one command at position i, with the sessions that it ends
unfoldable pub apply : ℕ → Command → Catalog → Step
apply i c k = let done = act i c k in (end_sessions i (filter (ends c done.0) done.0.sessions) done.0, done.1)

-- each key that the ended sessions free, with the session's delay
abbrev pub freed_key : KvRow → Option SessionRow → Option (List ℕ × ℕ)
freed_key r None = None
freed_key r (Some s) = Some (r.key, s.delay_ms)

unfoldable pub freed : ℕ → Command → Catalog → List (List ℕ × ℕ)
freed i c k =
    let done = (act i c k).0 in
    let gone = filter (ends c done) done.sessions in
    filter_map (λ r. freed_key r (ended_holder gone r.session)) done.kv

-- A log is a list of commands, the first one first. Its past is the same list with the last one first.
unfoldable pub at_past : List Command → Catalog
at_past [] = empty_catalog
at_past (c ∷ past) = (apply (length past + 1) c (at_past past)).0

-- the catalog after a log
abbrev pub catalog_at : List Command → Catalog
catalog_at log = at_past (reverse log)

-- the answer to a command after a log
abbrev pub reply_to : List Command → Command → Applied
reply_to log c = (apply (length log + 1) c (catalog_at log)).1
