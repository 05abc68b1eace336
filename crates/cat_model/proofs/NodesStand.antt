-- In the catalog after any log each service and each check is of a node that has a row. So a node that is not there has none.
use Rattle.std.proofs.Common.{◌≡◌, ℕ, ◌+◌, Bool, true, false, not, cond, ◌||◌, List, [], ◌∷◌, refl, sym, ◌∙◌, ap, Option, Some, None, filter, is_some, length}
use Rattle.std.specs.List.{AllByRecursion, list_any}
use Rattle.std.specs.Ordering.{is_eq}
use Rattle.std.proofs.lemmas.Bool.{true≢false}
use Rattle.std.proofs.lemmas.Cmp.{nat_list_cmp_total, tied_itself}
use Rattle.std.proofs.lemmas.Map.Lookups.{exact_bytes}
use Rattle.cat_model.specs.Keys.{text_cmp, pair_cmp, same_text, is_empty}
use Rattle.cat_model.specs.Tables.{put, without}
use Rattle.cat_model.specs.Same.{alike_nodes, alike_services, alike_checks}
use Rattle.cat_model.specs.Catalog.{Catalog, empty_catalog, node_key, service_key, check_key, node_at, service_at, check_at}
use Rattle.cat_model.specs.Queries.{node_rows, checks_of}
use Rattle.cat_model.specs.Indexes.{has_node}
use Rattle.cat_model.specs.Kv.{TxnRun, Went, Failed_at}
use Rattle.cat_model.specs.Machine.{Step, act, apply, end_sessions, at_past, register, deregister, create_session, set_query, put_node, put_service, put_given, put_check, put_checks, last_of_each, yes_or_no, txn_end, unless, deregister_service, deregister_check, deregister_node}
use Rattle.cat_model.specs.declared.row.NodeRow.{NodeRow}
use Rattle.cat_model.specs.declared.row.ServiceRow.{ServiceRow}
use Rattle.cat_model.specs.declared.row.CheckRow.{CheckRow}
use Rattle.cat_model.specs.declared.row.KvRow.{KvRow}
use Rattle.cat_model.specs.declared.command.NewService.{NewService}
use Rattle.cat_model.specs.declared.command.NewCheck.{NewCheck}
use Rattle.cat_model.specs.declared.applied.Refuse.{Refuse}
use Rattle.cat_model.specs.declared.command.Command.{Command}
use Rattle.cat_model.specs.declared.command.Command.TheVariants.{Noop, Register, Deregister, KvSet, KvCas, KvLock, KvUnlock, KvDelete, KvDeleteCas, KvDeleteTree, Txn, SessionCreate, SessionDestroy, QuerySet, QueryDelete, Reap, Upgrade}
use Rattle.cat_model.proofs.SameLemmas.{text_decides}
use Rattle.cat_model.proofs.TableLemmas.{All-filter, All-weaker, row_at-filter, eq_is}
use Rattle.cat_model.proofs.Lookups.{row_at-put}
use Rattle.cat_model.proofs.InOrder.{All-put}
use Rattle.cat_model.proofs.Pairs.{pair_cmp_total, exact_pair}

-- 1. The invariant. The node has a row.
abbrev pub IsThere : List NodeRow → List ℕ → Type 0
IsThere nodes node = is_some (node_at node nodes) ≡ true

-- each service and each check is of a node that is there
pub record Stand (nodes : List NodeRow) (services : List ServiceRow) (checks : List CheckRow) : Type 0 where
  pub services_stand : AllByRecursion (λ s. IsThere nodes s.node) services
  pub checks_stand : AllByRecursion (λ c. IsThere nodes c.node) checks

abbrev pub NodesStand : Catalog → Type 0
NodesStand k = Stand k.nodes k.services k.checks

record StepStands (s : Step) : Type 0 where
  at : NodesStand s.0

-- 2. What each command keeps.
either : {R : Type 0} (P : List R → Type 0) (b : Bool) (xs ys : List R) → P xs → P ys → P (cond b xs ys)
either P true xs ys h g = h
either P false xs ys h g = g

own_row : (new : NodeRow) (rows : List NodeRow) → IsThere (put text_cmp node_key new rows) new.node
own_row new rows = ap is_some (row_at-put text_cmp node_key nat_list_cmp_total exact_bytes new.node new rows) ∙ ap (λ o. is_some (cond (is_eq o) (Some new) (node_at new.node rows))) (tied_itself nat_list_cmp_total new.node)

other_row : (new : NodeRow) (rows : List NodeRow) (node : List ℕ) → IsThere rows node → IsThere (put text_cmp node_key new rows) node
other_row new rows node h = ap is_some (row_at-put text_cmp node_key nat_list_cmp_total exact_bytes node new rows) ∙ go (is_eq (text_cmp node new.node))
  where
    go : (b : Bool) → is_some (cond b (Some new) (node_at node rows)) ≡ true
    go true = refl
    go false = h

-- a registration puts the node's row and leaves the others
module _ (i : ℕ) (node address : List ℕ) (rows : List NodeRow) where
  abbrev fresh : ℕ → NodeRow
  fresh create = record { node = node; address = address; create = create; modify = i }

  own_there : IsThere (put_node i node address rows) node
  own_there = go (node_at node rows) refl
    where
      go : (o : Option NodeRow) → node_at node rows ≡ o → IsThere (elim o as (λ _. List NodeRow) [ None ↦ put text_cmp node_key (fresh i) rows | Some old ↦ cond (alike_nodes old (fresh i)) rows (put text_cmp node_key (fresh old.create) rows) ]) node
      go None e = own_row (fresh i) rows
      go (Some old) e = either (λ l. IsThere l node) (alike_nodes old (fresh i)) rows (put text_cmp node_key (fresh old.create) rows) (ap is_some e) (own_row (fresh old.create) rows)

  others_there : (other : List ℕ) → IsThere rows other → IsThere (put_node i node address rows) other
  others_there other h = go (node_at node rows)
    where
      go : (o : Option NodeRow) → IsThere (elim o as (λ _. List NodeRow) [ None ↦ put text_cmp node_key (fresh i) rows | Some old ↦ cond (alike_nodes old (fresh i)) rows (put text_cmp node_key (fresh old.create) rows) ]) other
      go None = other_row (fresh i) rows other h
      go (Some old) = either (λ l. IsThere l other) (alike_nodes old (fresh i)) rows (put text_cmp node_key (fresh old.create) rows) h (other_row (fresh old.create) rows other h)

module _ (nodes : List NodeRow) (i : ℕ) (node : List ℕ) (there : IsThere nodes node) where
  abbrev Services : List ServiceRow → Type 0
  Services = AllByRecursion (λ s. IsThere nodes s.node)

  abbrev Checks : List CheckRow → Type 0
  Checks = AllByRecursion (λ c. IsThere nodes c.node)

  service_put : (s : NewService) (rows : List ServiceRow) → Services rows → Services (put_service i node s rows)
  service_put s rows h = go (service_at (node, s.id) rows)
    where
      fresh : ℕ → ServiceRow
      fresh create = record { node = node; id = s.id; name = s.name; tags = s.tags; address = s.address; port = s.port; tag_override = s.tag_override; create = create; modify = i }

      fresh_put : (create : ℕ) → Services (put pair_cmp service_key (fresh create) rows)
      fresh_put create = All-put pair_cmp service_key pair_cmp_total exact_pair (λ r. IsThere nodes r.node) (fresh create) rows there h

      go : (o : Option ServiceRow) → Services (elim o as (λ _. List ServiceRow) [ None ↦ put pair_cmp service_key (fresh i) rows | Some old ↦ cond (alike_services old (fresh i)) rows (put pair_cmp service_key (fresh old.create) rows) ])
      go None = fresh_put i
      go (Some old) = either Services (alike_services old (fresh i)) rows (put pair_cmp service_key (fresh old.create) rows) h (fresh_put old.create)

  given_put : (o : Option NewService) (rows : List ServiceRow) → Services rows → Services (put_given i node o rows)
  given_put None rows h = h
  given_put (Some s) rows h = service_put s rows h

  check_put : (c : NewCheck) (rows : List CheckRow) → Checks rows → Checks (put_check i node c rows)
  check_put c rows h = go (check_at (node, c.id) rows)
    where
      fresh : ℕ → CheckRow
      fresh create = record { node = node; id = c.id; name = c.name; status = c.status; notes = c.notes; output = c.output; service = c.service; create = create; modify = i }

      fresh_put : (create : ℕ) → Checks (put pair_cmp check_key (fresh create) rows)
      fresh_put create = All-put pair_cmp check_key pair_cmp_total exact_pair (λ r. IsThere nodes r.node) (fresh create) rows there h

      go : (o : Option CheckRow) → Checks (elim o as (λ _. List CheckRow) [ None ↦ put pair_cmp check_key (fresh i) rows | Some old ↦ cond (alike_checks old (fresh i)) rows (put pair_cmp check_key (fresh old.create) rows) ])
      go None = fresh_put i
      go (Some old) = either Checks (alike_checks old (fresh i)) rows (put pair_cmp check_key (fresh old.create) rows) h (fresh_put old.create)

  checks_put : (cs : List NewCheck) (rows : List CheckRow) → Checks rows → Checks (put_checks i node cs rows)
  checks_put [] rows h = h
  checks_put (c ∷ cs) rows h = checks_put cs (put_check i node c rows) (check_put c rows h)

registered : (i : ℕ) (node address : List ℕ) (service : Option NewService) (checks : List NewCheck) (k : Catalog) → NodesStand k
    → Stand (put_node i node address k.nodes) (put_given i node service k.services) (put_checks i node (last_of_each checks) k.checks)
registered i node address service checks k h =
    let nodes : List NodeRow = put_node i node address k.nodes in
    let there : IsThere nodes node = own_there i node address k.nodes in
    record {
      services_stand = given_put nodes i node there service k.services (All-weaker (λ s. IsThere k.nodes s.node) (λ s. IsThere nodes s.node) (λ s t. others_there i node address k.nodes s.node t) k.services h.services_stand);
      checks_stand = checks_put nodes i node there (last_of_each checks) k.checks (All-weaker (λ c. IsThere k.nodes c.node) (λ c. IsThere nodes c.node) (λ c t. others_there i node address k.nodes c.node t) k.checks h.checks_stand);
    }

-- the rows of other nodes, after all of this node's went
others_stand : {R : Type 0} (of : R → List ℕ) (node : List ℕ) (nodes : List NodeRow) (rows : List R) → AllByRecursion (λ r. IsThere nodes (of r)) rows
    → AllByRecursion (λ r. IsThere (without (λ n. same_text n.node node) nodes) (of r)) (without (λ r. same_text (of r) node) rows)
others_stand of node nodes [] h = tt
others_stand of node nodes (r ∷ rows) h = go (not (same_text (of r) node)) refl (others_stand of node nodes rows h.1)
  where
    go : (b : Bool) → not (same_text (of r) node) ≡ b → AllByRecursion (λ r. IsThere (without (λ n. same_text n.node node) nodes) (of r)) (without (λ r. same_text (of r) node) rows)
        → AllByRecursion (λ r. IsThere (without (λ n. same_text n.node node) nodes) (of r)) (cond b (r ∷ without (λ r. same_text (of r) node) rows) (without (λ r. same_text (of r) node) rows))
    go true e rest = (ap is_some (row_at-filter text_cmp node_key nat_list_cmp_total exact_bytes (λ k. not (same_text k node)) (of r) e nodes) ∙ h.0, rest)
    go false e rest = rest

deregistered : (node service check : List ℕ) (k : Catalog) → NodesStand k → NodesStand (deregister node service check k)
unfolding deregister
deregistered node service check k h = go (not (is_empty service)) (not (is_empty check))
  where
    go : (b d : Bool) → NodesStand (cond b (deregister_service node service k) (cond d (deregister_check node check k) (deregister_node node k)))
    go true d = record { services_stand = All-filter (λ s. IsThere k.nodes s.node) _ k.services h.services_stand; checks_stand = All-filter (λ c. IsThere k.nodes c.node) _ k.checks h.checks_stand }
    go false true = record { services_stand = h.services_stand; checks_stand = All-filter (λ c. IsThere k.nodes c.node) _ k.checks h.checks_stand }
    go false false = record { services_stand = others_stand (λ s. s.node) node k.nodes k.services h.services_stand; checks_stand = others_stand (λ c. c.node) node k.nodes k.checks h.checks_stand }

unless_stands : (o : Option Refuse) (k : Catalog) (s : Step) → NodesStand k → StepStands s → StepStands (unless o k s)
unfolding unless
unless_stands None k s h g = g
unless_stands (Some r) k s h g = record { at = h }

yes_or_no_stands : (k : Catalog) (o : Option (List KvRow)) → NodesStand k → StepStands (yes_or_no k o)
yes_or_no_stands k None h = record { at = h }
yes_or_no_stands k (Some rows) h = record { at = h }

txn_stands : (k : Catalog) (t : TxnRun) → NodesStand k → StepStands (txn_end k t)
txn_stands k (Went rows results) h = record { at = h }
txn_stands k (Failed_at at verb) h = record { at = h }

act_stands : (i : ℕ) (c : Command) (k : Catalog) → NodesStand k → StepStands (act i c k)
unfolding act register create_session set_query
act_stands i Noop k h = record { at = h }
act_stands i (Register node address service checks) k h = unless_stands _ k _ h (record { at = registered i node address service checks k h })
act_stands i (Deregister node service check) k h = record { at = deregistered node service check k h }
act_stands i (KvSet key flags value) k h = record { at = h }
act_stands i (KvCas key flags value index) k h = yes_or_no_stands k _ h
act_stands i (KvLock key flags value session) k h = unless_stands _ k _ h (yes_or_no_stands k _ h)
act_stands i (KvUnlock key flags value session) k h = yes_or_no_stands k _ h
act_stands i (KvDelete key) k h = record { at = h }
act_stands i (KvDeleteCas key index) k h = yes_or_no_stands k _ h
act_stands i (KvDeleteTree prefix) k h = record { at = h }
act_stands i (Txn ops) k h = txn_stands k _ h
act_stands i (SessionCreate id name node checks behavior delay_ms ttl_ms) k h = unless_stands _ k _ h (record { at = h })
act_stands i (SessionDestroy id) k h = record { at = h }
act_stands i (QuerySet id create name session service only_passing tags dns_ttl_ms) k h = unless_stands _ k _ h (record { at = h })
act_stands i (QueryDelete id) k h = record { at = h }
act_stands i Reap k h = record { at = h }
act_stands i Upgrade k h = record { at = h }

-- the nodes of the catalog after any log stand; the sessions that end change none of them
pub nodes_stand : (past : List Command) → NodesStand (at_past past)
unfolding at_past apply end_sessions
nodes_stand [] = record { services_stand = tt; checks_stand = tt }
nodes_stand (c ∷ past) = (act_stands (length past + 1) c (at_past past) (nodes_stand past)).at

-- 3. A node that is not there.
pub without_any : {A : Type 0} (test : A → Bool) (xs : List A) → list_any test xs ≡ false → filter test xs ≡ []
without_any test [] h = refl
without_any test (x ∷ xs) h = go (test x) h (λ e. without_any test xs e)
  where
    go : (b : Bool) → (b || list_any test xs) ≡ false → (list_any test xs ≡ false → filter test xs ≡ []) → cond b (x ∷ filter test xs) (filter test xs) ≡ []
    go true e rest = absurd (true≢false e)
    go false e rest = rest e

-- a node has a row where some row is found
found_is : (node : List ℕ) (rows : List NodeRow) → is_some (node_at node rows) ≡ list_any (λ r. same_text r.node node) rows
found_is node [] = refl
found_is node (r ∷ rows) = go (is_eq (text_cmp node r.node)) refl (same_text r.node node) refl (found_is node rows)
  where
    go : (b : Bool) → is_eq (text_cmp node r.node) ≡ b → (s : Bool) → same_text r.node node ≡ s → is_some (node_at node rows) ≡ list_any (λ r. same_text r.node node) rows
        → is_some (cond b (Some r) (node_at node rows)) ≡ (s || list_any (λ r. same_text r.node node) rows)
    go true e true s rest = refl
    go true e false s rest = absurd (true≢false (sym ((text_decides r.node node).1 (sym (exact_bytes node r.node (eq_is text_cmp node_key nat_list_cmp_total _ e)))) ∙ s))
    go false e true s rest = absurd (true≢false (sym (ap is_eq (tied_itself nat_list_cmp_total node)) ∙ ap (λ n. is_eq (text_cmp node n)) (sym ((text_decides r.node node).0 s)) ∙ e))
    go false e false s rest = rest

none_of : {R : Type 0} (of : R → List ℕ) (node : List ℕ) (nodes : List NodeRow) → list_any (λ r. same_text r.node node) nodes ≡ false → (rows : List R) → AllByRecursion (λ r. IsThere nodes (of r)) rows → filter (λ r. same_text (of r) node) rows ≡ []
none_of of node nodes gone [] h = refl
none_of of node nodes gone (r ∷ rows) h = go (same_text (of r) node) refl (none_of of node nodes gone rows h.1)
  where
    go : (b : Bool) → same_text (of r) node ≡ b → filter (λ r. same_text (of r) node) rows ≡ [] → cond b (r ∷ filter (λ r. same_text (of r) node) rows) (filter (λ r. same_text (of r) node) rows) ≡ []
    go true e rest = absurd (true≢false (sym h.0 ∙ ap (λ n. is_some (node_at n nodes)) ((text_decides (of r) node).0 e) ∙ found_is node nodes ∙ gone))
    go false e rest = rest

-- neither a row nor a service
pub no_rows : (node : List ℕ) (k : Catalog) → NodesStand k → has_node node k ≡ false → node_rows node k ≡ empty_catalog
no_rows node k h gone = λ i. record empty_catalog { nodes = without_any (λ r. same_text r.node node) k.nodes gone i; services = none_of (λ s. s.node) node k.nodes gone k.services h.services_stand i }

-- and no check
pub no_checks : (node : List ℕ) (k : Catalog) → NodesStand k → has_node node k ≡ false → checks_of node k ≡ []
no_checks node k h gone = none_of (λ c. c.node) node k.nodes gone k.checks h.checks_stand
