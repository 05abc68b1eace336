-- The key order: each list of a catalog stays in the order of its keys, whatever the command.
use Rattle.std.proofs.Common.{ℕ, ◌+◌, Bool, true, false, not, cond, List, [], ◌∷◌, Option, Some, None, nat_cmp, is_some, length, reverse}
use Rattle.std.proofs.lemmas.Cmp.{nat_list_cmp_total, nat_cmp_total}
use Rattle.cat_model.specs.Keys.{text_cmp, pair_cmp, is_empty}
use Rattle.cat_model.specs.Tables.{Ascends, put}
use Rattle.cat_model.specs.Same.{alike_nodes, alike_services, alike_checks}
use Rattle.cat_model.specs.Catalog.{Catalog, InOrder, node_key, service_key, check_key, session_key, query_key, node_at, service_at, check_at, session_at}
use Rattle.cat_model.specs.Kv.{TxnRun, Went, Failed_at}
use Rattle.cat_model.specs.Machine.{Step, act, apply, end_sessions, at_past, catalog_at, register, deregister, create_session, set_query, put_node, put_service, put_given, put_check, put_checks, last_of_each, yes_or_no, txn_end, unless, deregister_service, deregister_check, deregister_node, ended_holder}
use Rattle.cat_model.specs.declared.row.NodeRow.{NodeRow}
use Rattle.cat_model.specs.declared.row.ServiceRow.{ServiceRow}
use Rattle.cat_model.specs.declared.row.CheckRow.{CheckRow}
use Rattle.cat_model.specs.declared.row.SessionRow.{SessionRow}
use Rattle.cat_model.specs.declared.row.QueryRow.{QueryRow}
use Rattle.cat_model.specs.declared.row.KvRow.{KvRow}
use Rattle.cat_model.specs.declared.command.NewService.{NewService}
use Rattle.cat_model.specs.declared.command.NewCheck.{NewCheck}
use Rattle.cat_model.specs.declared.applied.Refuse.{Refuse}
use Rattle.cat_model.specs.declared.command.Command.{Command}
use Rattle.cat_model.specs.declared.command.Command.TheVariants.{Noop, Register, Deregister, KvSet, KvCas, KvLock, KvUnlock, KvDelete, KvDeleteCas, KvDeleteTree, Txn, SessionCreate, SessionDestroy, QuerySet, QueryDelete, Reap, Upgrade}
use Rattle.cat_model.proofs.TableLemmas.{Ascends-put, Ascends-filter}
use Rattle.cat_model.proofs.Pairs.{pair_cmp_total}
use Rattle.cat_model.proofs.KvOrder.{kv_ascends}

abbrev pub NodesAscend : List NodeRow → Type 0
NodesAscend = Ascends text_cmp node_key

abbrev pub ServicesAscend : List ServiceRow → Type 0
ServicesAscend = Ascends pair_cmp service_key

abbrev pub ChecksAscend : List CheckRow → Type 0
ChecksAscend = Ascends pair_cmp check_key

abbrev pub SessionsAscend : List SessionRow → Type 0
SessionsAscend = Ascends nat_cmp session_key

abbrev pub QueriesAscend : List QueryRow → Type 0
QueriesAscend = Ascends nat_cmp query_key

-- a row that is put, or not
either_ascends : {R : Type 0} (P : List R → Type 0) (b : Bool) (xs ys : List R) → P xs → P ys → P (cond b xs ys)
either_ascends P true xs ys h g = h
either_ascends P false xs ys h g = g

node_put : (i : ℕ) (node address : List ℕ) (rows : List NodeRow) → NodesAscend rows → NodesAscend (put_node i node address rows)
node_put i node address rows h = go (node_at node rows)
  where
    fresh : ℕ → NodeRow
    fresh create = record { node = node; address = address; create = create; modify = i }

    fresh_ascends : (create : ℕ) → NodesAscend (put text_cmp node_key (fresh create) rows)
    fresh_ascends create = Ascends-put text_cmp node_key nat_list_cmp_total (fresh create) rows h

    go : (o : Option NodeRow) → NodesAscend (elim o as (λ _. List NodeRow) [ None ↦ put text_cmp node_key (fresh i) rows | Some old ↦ cond (alike_nodes old (fresh i)) rows (put text_cmp node_key (fresh old.create) rows) ])
    go None = fresh_ascends i
    go (Some old) = either_ascends NodesAscend (alike_nodes old (fresh i)) rows (put text_cmp node_key (fresh old.create) rows) h (fresh_ascends old.create)

service_put : (i : ℕ) (node : List ℕ) (s : NewService) (rows : List ServiceRow) → ServicesAscend rows → ServicesAscend (put_service i node s rows)
service_put i node s rows h = go (service_at (node, s.id) rows)
  where
    fresh : ℕ → ServiceRow
    fresh create = record { node = node; id = s.id; name = s.name; tags = s.tags; address = s.address; port = s.port; tag_override = s.tag_override; create = create; modify = i }

    fresh_ascends : (create : ℕ) → ServicesAscend (put pair_cmp service_key (fresh create) rows)
    fresh_ascends create = Ascends-put pair_cmp service_key pair_cmp_total (fresh create) rows h

    go : (o : Option ServiceRow) → ServicesAscend (elim o as (λ _. List ServiceRow) [ None ↦ put pair_cmp service_key (fresh i) rows | Some old ↦ cond (alike_services old (fresh i)) rows (put pair_cmp service_key (fresh old.create) rows) ])
    go None = fresh_ascends i
    go (Some old) = either_ascends ServicesAscend (alike_services old (fresh i)) rows (put pair_cmp service_key (fresh old.create) rows) h (fresh_ascends old.create)

given_put : (i : ℕ) (node : List ℕ) (o : Option NewService) (rows : List ServiceRow) → ServicesAscend rows → ServicesAscend (put_given i node o rows)
given_put i node None rows h = h
given_put i node (Some s) rows h = service_put i node s rows h

pub check_put : (i : ℕ) (node : List ℕ) (c : NewCheck) (rows : List CheckRow) → ChecksAscend rows → ChecksAscend (put_check i node c rows)
check_put i node c rows h = go (check_at (node, c.id) rows)
  where
    fresh : ℕ → CheckRow
    fresh create = record { node = node; id = c.id; name = c.name; status = c.status; notes = c.notes; output = c.output; service = c.service; create = create; modify = i }

    fresh_ascends : (create : ℕ) → ChecksAscend (put pair_cmp check_key (fresh create) rows)
    fresh_ascends create = Ascends-put pair_cmp check_key pair_cmp_total (fresh create) rows h

    go : (o : Option CheckRow) → ChecksAscend (elim o as (λ _. List CheckRow) [ None ↦ put pair_cmp check_key (fresh i) rows | Some old ↦ cond (alike_checks old (fresh i)) rows (put pair_cmp check_key (fresh old.create) rows) ])
    go None = fresh_ascends i
    go (Some old) = either_ascends ChecksAscend (alike_checks old (fresh i)) rows (put pair_cmp check_key (fresh old.create) rows) h (fresh_ascends old.create)

checks_put : (i : ℕ) (node : List ℕ) (cs : List NewCheck) (rows : List CheckRow) → ChecksAscend rows → ChecksAscend (put_checks i node cs rows)
checks_put i node [] rows h = h
checks_put i node (c ∷ cs) rows h = checks_put i node cs (put_check i node c rows) (check_put i node c rows h)

-- the lists but the keys are in order
record Others (nodes : List NodeRow) (services : List ServiceRow) (checks : List CheckRow) (sessions : List SessionRow) (queries : List QueryRow) : Type 0 where
  nodes_ascend : NodesAscend nodes
  services_ascend : ServicesAscend services
  checks_ascend : ChecksAscend checks
  sessions_ascend : SessionsAscend sessions
  queries_ascend : QueriesAscend queries

abbrev OthersOf : Catalog → Type 0
OthersOf k = Others k.nodes k.services k.checks k.sessions k.queries

record StepOthers (s : Step) : Type 0 where
  at : OthersOf s.0

unless_others : (o : Option Refuse) (k : Catalog) (s : Step) → OthersOf k → StepOthers s → StepOthers (unless o k s)
unfolding unless
unless_others None k s h g = g
unless_others (Some r) k s h g = record { at = h }

yes_or_no_others : (k : Catalog) (o : Option (List KvRow)) → OthersOf k → StepOthers (yes_or_no k o)
yes_or_no_others k None h = record { at = h }
yes_or_no_others k (Some rows) h = record { at = h }

txn_others : (k : Catalog) (t : TxnRun) → OthersOf k → StepOthers (txn_end k t)
txn_others k (Went rows results) h = record { at = h }
txn_others k (Failed_at at verb) h = record { at = h }

deregister_others : (node service check : List ℕ) (k : Catalog) → OthersOf k → OthersOf (deregister node service check k)
unfolding deregister
deregister_others node service check k h = go (not (is_empty service)) (not (is_empty check))
  where
    go : (b d : Bool) → OthersOf (cond b (deregister_service node service k) (cond d (deregister_check node check k) (deregister_node node k)))
    go true d = record { nodes_ascend = h.nodes_ascend; services_ascend = Ascends-filter pair_cmp service_key pair_cmp_total _ k.services h.services_ascend; checks_ascend = Ascends-filter pair_cmp check_key pair_cmp_total _ k.checks h.checks_ascend; sessions_ascend = h.sessions_ascend; queries_ascend = h.queries_ascend }
    go false true = record { nodes_ascend = h.nodes_ascend; services_ascend = h.services_ascend; checks_ascend = Ascends-filter pair_cmp check_key pair_cmp_total _ k.checks h.checks_ascend; sessions_ascend = h.sessions_ascend; queries_ascend = h.queries_ascend }
    go false false = record { nodes_ascend = Ascends-filter text_cmp node_key nat_list_cmp_total _ k.nodes h.nodes_ascend; services_ascend = Ascends-filter pair_cmp service_key pair_cmp_total _ k.services h.services_ascend; checks_ascend = Ascends-filter pair_cmp check_key pair_cmp_total _ k.checks h.checks_ascend; sessions_ascend = h.sessions_ascend; queries_ascend = h.queries_ascend }

act_others : (i : ℕ) (c : Command) (k : Catalog) → OthersOf k → StepOthers (act i c k)
unfolding act register create_session set_query
act_others i Noop k h = record { at = h }
act_others i (Register node address service checks) k h = unless_others _ k _ h (record { at = record { nodes_ascend = node_put i node address k.nodes h.nodes_ascend; services_ascend = given_put i node service k.services h.services_ascend; checks_ascend = checks_put i node (last_of_each checks) k.checks h.checks_ascend; sessions_ascend = h.sessions_ascend; queries_ascend = h.queries_ascend } })
act_others i (Deregister node service check) k h = record { at = deregister_others node service check k h }
act_others i (KvSet key flags value) k h = record { at = h }
act_others i (KvCas key flags value index) k h = yes_or_no_others k _ h
act_others i (KvLock key flags value session) k h = unless_others _ k _ h (yes_or_no_others k _ h)
act_others i (KvUnlock key flags value session) k h = yes_or_no_others k _ h
act_others i (KvDelete key) k h = record { at = h }
act_others i (KvDeleteCas key index) k h = yes_or_no_others k _ h
act_others i (KvDeleteTree prefix) k h = record { at = h }
act_others i (Txn ops) k h = txn_others k _ h
act_others i (SessionCreate id name node checks behavior delay_ms ttl_ms) k h =
    unless_others _ k _ h (record { at = record { nodes_ascend = h.nodes_ascend; services_ascend = h.services_ascend; checks_ascend = h.checks_ascend; sessions_ascend = Ascends-put nat_cmp session_key nat_cmp_total _ k.sessions h.sessions_ascend; queries_ascend = h.queries_ascend } })
act_others i (SessionDestroy id) k h = record { at = h }
act_others i (QuerySet id create name session service only_passing tags dns_ttl_ms) k h =
    unless_others _ k _ h (record { at = record { nodes_ascend = h.nodes_ascend; services_ascend = h.services_ascend; checks_ascend = h.checks_ascend; sessions_ascend = h.sessions_ascend; queries_ascend = Ascends-put nat_cmp query_key nat_cmp_total _ k.queries h.queries_ascend } })
act_others i (QueryDelete id) k h = record { at = record { nodes_ascend = h.nodes_ascend; services_ascend = h.services_ascend; checks_ascend = h.checks_ascend; sessions_ascend = h.sessions_ascend; queries_ascend = Ascends-filter nat_cmp query_key nat_cmp_total _ k.queries h.queries_ascend } }
act_others i Reap k h = record { at = h }
act_others i Upgrade k h = record { at = h }

end_others : (i : ℕ) (gone : List SessionRow) (k : Catalog) → OthersOf k → OthersOf (end_sessions i gone k)
unfolding end_sessions
end_others i gone k h = record { nodes_ascend = h.nodes_ascend; services_ascend = h.services_ascend; checks_ascend = h.checks_ascend; sessions_ascend = Ascends-filter nat_cmp session_key nat_cmp_total (λ s. not (is_some (session_at s.id gone))) k.sessions h.sessions_ascend; queries_ascend = Ascends-filter nat_cmp query_key nat_cmp_total (λ q. not (is_some (ended_holder gone q.session))) k.queries h.queries_ascend }

others_at : (past : List Command) → OthersOf (at_past past)
unfolding at_past apply
others_at [] = record { nodes_ascend = tt; services_ascend = tt; checks_ascend = tt; sessions_ascend = tt; queries_ascend = tt }
others_at (c ∷ past) = end_others (length past + 1) _ _ (act_others (length past + 1) c (at_past past) (others_at past)).at

pub in_order_at : (past : List Command) → InOrder (at_past past)
in_order_at past =
    let h = others_at past in
    record { nodes = h.nodes_ascend; services = h.services_ascend; checks = h.checks_ascend; kv = kv_ascends past; sessions = h.sessions_ascend; queries = h.queries_ascend }

-- the key order of any log
pub key_order : (log : List Command) → InOrder (catalog_at log)
key_order log = in_order_at (reverse log)
