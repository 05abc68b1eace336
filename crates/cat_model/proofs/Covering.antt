-- The covering law, for every query and every command at once. A channel fires where its rows differ, so what is left is that
-- two tables in order which differ do so at some key, and what a reap and a vanished name touch.
use Rattle.std.proofs.Common.{◌≡◌, ℕ, Bool, true, false, not, cond, ◌&&◌, ◌||◌, List, [], ◌∷◌, ◌++◌, refl, sym, ◌∙◌, ap, subst, Option, Some, None, filter, is_some, reverse, arith, ◌⊎◌, inl, inr}
use Rattle.std.specs.List.{list_any}
use Rattle.std.specs.Cmp.Lexicographic.{pointwise}
use Rattle.std.proofs.lemmas.Cmp.{nat_list_cmp_total}
use Rattle.std.proofs.lemmas.Map.Lookups.{exact_bytes}
use Rattle.std.proofs.lemmas.Bool.{or_cases, and_parts, false≢true}
use Rattle.cat_model.specs.Keys.{text_cmp, has_prefix, same_text}
use Rattle.cat_model.specs.Tables.{row_at, same_found}
use Rattle.cat_model.specs.Same.{same_node, same_service, same_check, same_kv}
use Rattle.cat_model.specs.Catalog.{Catalog, empty_catalog, same_catalog, kv_key, kv_at}
use Rattle.cat_model.specs.Queries.{reads, service_rows, node_rows, checks_of}
use Rattle.cat_model.specs.Machine.{catalog_at}
use Rattle.cat_model.specs.Indexes.{touches, is_reaped, is_reap, lacks_service, some_vanishes, has_name, lacks_node, some_node_goes, has_node}
use Rattle.cat_model.specs.Channels.{chans, fires, Reaches, IsReached, CoveringLaw}
use Rattle.cat_model.specs.declared.row.KvRow.{KvRow}
use Rattle.cat_model.specs.declared.row.CheckRow.{CheckRow}
use Rattle.cat_model.specs.declared.query.Query.{Query}
use Rattle.cat_model.specs.declared.query.Query.TheVariants as q
use Rattle.cat_model.specs.declared.command.Command.{Command}
use Rattle.cat_model.specs.declared.query.Chan.{Chan}
use Rattle.cat_model.specs.declared.query.Chan.TheVariants.{Nodes, Services, Checks, Sessions, Queries, Service, Vanished, Node, NodeChecks, NodeGone, Key, Prefix, Reaped}
use Rattle.cat_model.proofs.SameLemmas.{text_decides, kv_decides, catalog_decides}
use Rattle.cat_model.proofs.TableLemmas.{equal_or_differs, Differs, row_at-filter, Ascends-filter, All-filter_test}
use Rattle.cat_model.proofs.KvOrder.{KvAscends, kv_ascends}
use Rattle.cat_model.proofs.NodesStand.{NodesStand, nodes_stand, no_checks}

-- a channel that fires and stands first, or second, in the list
first_reached : (before : Catalog) (c : Command) (after : Catalog) (chan : Chan) (rest : List Chan) → fires before c after chan ≡ true → Reaches chan chan → IsReached before c after (chan ∷ rest)
first_reached before c after chan rest f r = record { fired = chan; chan = chan; fires = f; stands = (0, omega arith, refl); reaches = r }

second_reached : (before : Catalog) (c : Command) (after : Catalog) (other chan : Chan) (rest : List Chan) → fires before c after chan ≡ true → Reaches chan chan → IsReached before c after (other ∷ chan ∷ rest)
second_reached before c after other chan rest f r = record { fired = chan; chan = chan; fires = f; stands = (1, omega arith, refl); reaches = r }

-- which of two tests failed
one_fails : (a b : Bool) → not (a && b) ≡ true → (not a ≡ true) ⊎ (not b ≡ true)
one_fails true b h = inr h
one_fails false b h = inl h

-- where one table alone is read, it is that table which differs
five : (a : Bool) → not (a && true && true && true && true && true) ≡ true → not a ≡ true
five true h = h
five false h = refl

four : (a : Bool) → not (a && true && true && true && true) ≡ true → not a ≡ true
four true h = h
four false h = refl

three : (a : Bool) → not (a && true && true && true) ≡ true → not a ≡ true
three true h = h
three false h = refl

one : (a : Bool) → not (a && true) ≡ true → not a ≡ true
one true h = h
one false h = refl

two : (a : Bool) → not (a && true && true) ≡ true → not a ≡ true
two true h = h
two false h = refl

in_kv : (xs ys : List KvRow) → not (same_catalog (record empty_catalog { kv = xs }) (record empty_catalog { kv = ys })) ≡ true → not (pointwise same_kv xs ys) ≡ true
unfolding same_catalog
in_kv xs ys h = two _ h

-- rows of keys that pass a test, which differ: some key that passes has another row
pub some_key : (test : List ℕ → Bool) (before after : Catalog) (c : Command) → KvAscends before.kv → KvAscends after.kv
    → not (same_catalog (record empty_catalog { kv = filter (λ r. test r.key) before.kv }) (record empty_catalog { kv = filter (λ r. test r.key) after.kv })) ≡ true
    → (k : List ℕ) × (test k ≡ true) × (fires before c after (Key k) ≡ true)
unfolding fires
some_key test before after c ab aa h =
    go (equal_or_differs text_cmp kv_key nat_list_cmp_total same_kv kv_decides (λ k. test k ≡ true) xs ys
    (Ascends-filter text_cmp kv_key nat_list_cmp_total (λ r. test r.key) before.kv ab) (Ascends-filter text_cmp kv_key nat_list_cmp_total (λ r. test r.key) after.kv aa)
    (All-filter_test (λ r. test r.key) before.kv) (All-filter_test (λ r. test r.key) after.kv))
  where
    xs : List KvRow
    xs = filter (λ r. test r.key) before.kv

    ys : List KvRow
    ys = filter (λ r. test r.key) after.kv

    go : (xs ≡ ys) ⊎ Differs text_cmp kv_key same_kv (λ k. test k ≡ true) xs ys → (k : List ℕ) × (test k ≡ true) × (not (same_found same_kv (kv_at k before.kv) (kv_at k after.kv)) ≡ true)
    go (inl e) = absurd (false≢true (sym (ap not ((catalog_decides _ _).1 (ap (λ l. record empty_catalog { kv = l }) e))) ∙ h))
    go (inr d) =
        let same_before : row_at text_cmp kv_key d.at xs ≡ kv_at d.at before.kv = row_at-filter text_cmp kv_key nat_list_cmp_total exact_bytes test d.at d.holds before.kv in
        let same_after : row_at text_cmp kv_key d.at ys ≡ kv_at d.at after.kv = row_at-filter text_cmp kv_key nat_list_cmp_total exact_bytes test d.at d.holds after.kv in
        (d.at, d.holds, ap not (sym (ap (λ o. same_found same_kv o (kv_at d.at after.kv)) same_before) ∙ sym (ap (same_found same_kv (row_at text_cmp kv_key d.at xs)) same_after) ∙ d.differs))

-- the key's row differs
key_fires : (key : List ℕ) (before after : Catalog) (c : Command) → KvAscends before.kv → KvAscends after.kv → not (same_catalog (reads (q.Key key) before) (reads (q.Key key) after)) ≡ true → fires before c after (Key key) ≡ true
unfolding reads
key_fires key before after c ab aa h =
    let found : (k : List ℕ) × (same_text k key ≡ true) × (fires before c after (Key k) ≡ true) = some_key (λ k. same_text k key) before after c ab aa h in
    subst (λ k. fires before c after (Key k) ≡ true) ((text_decides found.0 key).0 found.1) found.2

-- some key with the prefix has another row
prefix_reached : (prefix : List ℕ) (before after : Catalog) (c : Command) (rest : List Chan) → KvAscends before.kv → KvAscends after.kv
    → not (same_catalog (record empty_catalog { kv = filter (λ r. has_prefix prefix r.key) before.kv }) (record empty_catalog { kv = filter (λ r. has_prefix prefix r.key) after.kv })) ≡ true
    → IsReached before c after (Prefix prefix ∷ rest)
prefix_reached prefix before after c rest ab aa h =
    let found : (k : List ℕ) × (has_prefix prefix k ≡ true) × (fires before c after (Key k) ≡ true) = some_key (has_prefix prefix) before after c ab aa h in
    record { fired = Key found.0; chan = Prefix prefix; fires = found.2; stands = (0, omega arith, refl); reaches = found.1 }

-- where two lists make a query's reads
either_reached : (before : Catalog) (c : Command) (after : Catalog) (x y : Chan) (a b : Bool) → not (a && b) ≡ true → fires before c after x ≡ not a → fires before c after y ≡ not b → Reaches x x → Reaches y y → IsReached before c after (x ∷ y ∷ [])
either_reached before c after x y true b h fx fy rx ry = second_reached before c after x y [] (fy ∙ h) ry
either_reached before c after x y false b h fx fy rx ry = first_reached before c after x (y ∷ []) fx rx

both_front : (a b : Bool) → not (a && b && true && true && true && true) ≡ true → not (a && b) ≡ true
both_front true true h = h
both_front true false h = refl
both_front false b h = refl

both_middle : (a b : Bool) → not (a && b && true && true && true) ≡ true → not (b && a) ≡ true
both_middle true true h = h
both_middle true false h = refl
both_middle false true h = refl
both_middle false false h = refl

checks_reached : (before after : Catalog) (c : Command)
    → not (same_catalog (record empty_catalog { checks = before.checks; services = before.services }) (record empty_catalog { checks = after.checks; services = after.services })) ≡ true
    → IsReached before c after (Checks ∷ Services ∷ [])
unfolding same_catalog fires
checks_reached before after c h =
    let services : Bool = pointwise same_service before.services after.services in
    let checks : Bool = pointwise same_check before.checks after.checks in
    either_reached before c after Checks Services checks services (both_middle services checks h) refl refl refl refl

-- a list has an element that passes exactly where what passes has one
pub any_filter : {A : Type 0} (test : A → Bool) (xs : List A) → list_any test (filter test xs) ≡ list_any test xs
any_filter test [] = refl
any_filter test (x ∷ xs) = go (test x) refl (any_filter test xs)
  where
    go : (b : Bool) → test x ≡ b → list_any test (filter test xs) ≡ list_any test xs → list_any test (cond b (x ∷ filter test xs) (filter test xs)) ≡ (b || list_any test xs)
    go true e rest = ap (λ t. t || list_any test (filter test xs)) e
    go false e rest = rest

-- a node is there where its reads have a row
pub same_host : (node : List ℕ) (before after : Catalog) → filter (λ r. same_text r.node node) before.nodes ≡ filter (λ r. same_text r.node node) after.nodes → has_node node before ≡ has_node node after
same_host node before after e = sym (any_filter (λ r. same_text r.node node) before.nodes) ∙ ap (list_any (λ r. same_text r.node node)) e ∙ any_filter (λ r. same_text r.node node) after.nodes

-- of three lists the third differs, where the first two are equal
third_differs : (a b c : Bool) → not (a && b && c && true && true && true) ≡ true → (a && b && true && true && true && true) ≡ true → not c ≡ true
third_differs true true false h e = refl
third_differs true true true h e = h
third_differs true false c h e = absurd (false≢true e)
third_differs false b c h e = absurd (false≢true e)

-- A node's row, services or checks differ. An absent node has no checks, so they can only come with its row.
health_reached : (node : List ℕ) (before after : Catalog) (c : Command) → NodesStand before → NodesStand after → not (same_catalog (reads (q.HealthNode node) before) (reads (q.HealthNode node) after)) ≡ true
    → (b : Bool) → has_node node before ≡ b → IsReached before c after (Node node ∷ cond b (NodeChecks node) NodeGone ∷ [])
unfolding reads same_catalog fires
health_reached node before after c sb sa h b was = go (same_catalog (node_rows node before) (node_rows node after)) refl b was
  where
    checks_differ : same_catalog (node_rows node before) (node_rows node after) ≡ true → not (pointwise same_check (checks_of node before) (checks_of node after)) ≡ true
    checks_differ e =
        third_differs (pointwise same_node (node_rows node before).nodes (node_rows node after).nodes) (pointwise same_service (node_rows node before).services (node_rows node after).services)
        (pointwise same_check (checks_of node before) (checks_of node after)) h e

    none_differ : (xs ys : List CheckRow) → xs ≡ [] → ys ≡ [] → not (pointwise same_check xs ys) ≡ false
    none_differ xs ys e f = λ i. not (pointwise same_check (e i) (f i))

    go : (s : Bool) → same_catalog (node_rows node before) (node_rows node after) ≡ s → (b : Bool) → has_node node before ≡ b → IsReached before c after (Node node ∷ cond b (NodeChecks node) NodeGone ∷ [])
    go false e b was = first_reached before c after (Node node) (cond b (NodeChecks node) NodeGone ∷ []) (ap not e) refl
    go true e true was = second_reached before c after (Node node) (NodeChecks node) [] (checks_differ e) refl
    go true e false was =
        let is : has_node node after ≡ false = sym (same_host node before after (ap (λ k. k.nodes) ((catalog_decides (node_rows node before) (node_rows node after)).0 e))) ∙ was in
        absurd (false≢true (sym (none_differ (checks_of node before) (checks_of node after) (no_checks node before sb was) (no_checks node after sa is)) ∙ checks_differ e))

-- what the query reads differs
reads_reached : (q : Query) (before after : Catalog) (c : Command) → KvAscends before.kv → KvAscends after.kv → NodesStand before → NodesStand after → not (same_catalog (reads q before) (reads q after)) ≡ true → IsReached before c after (chans q before)
unfolding reads chans fires same_catalog
reads_reached q.Nodes before after c ab aa sb sa h = first_reached before c after Nodes [] (five _ h) refl
reads_reached q.Services before after c ab aa sb sa h = first_reached before c after Services [] (four _ h) refl
reads_reached (q.Service name tags) before after c ab aa sb sa h = first_reached before c after (Service name) _ h refl
reads_reached (q.NodeServices node) before after c ab aa sb sa h = first_reached before c after (Node node) _ h refl
reads_reached (q.HealthService name tags passing) before after c ab aa sb sa h = first_reached before c after (Service name) _ h refl
reads_reached (q.HealthChecks name) before after c ab aa sb sa h = checks_reached before after c h
reads_reached (q.HealthNode node) before after c ab aa sb sa h = health_reached node before after c sb sa h (has_node node before) refl
reads_reached (q.HealthState state) before after c ab aa sb sa h = checks_reached before after c h
reads_reached (q.Key key) before after c ab aa sb sa h = first_reached before c after (Key key) _ (key_fires key before after c ab aa h) refl
reads_reached (q.Prefix prefix) before after c ab aa sb sa h = prefix_reached prefix before after c (Reaped ∷ []) ab aa h
reads_reached (q.Keys prefix separator) before after c ab aa sb sa h = prefix_reached prefix before after c (Reaped ∷ []) ab aa h
reads_reached (q.SessionInfo id) before after c ab aa sb sa h = first_reached before c after Sessions [] (one _ h) refl
reads_reached (q.SessionsOf node) before after c ab aa sb sa h = first_reached before c after Sessions [] (one _ h) refl
reads_reached q.Sessions before after c ab aa sb sa h = first_reached before c after Sessions [] (one _ h) refl
reads_reached (q.QueryInfo id) before after c ab aa sb sa h = first_reached before c after Queries [] h refl
reads_reached q.Queries before after c ab aa sb sa h = first_reached before c after Queries [] h refl

-- a key that is absent after a reap: it was absent before, or its row went
reaped_key : (key : List ℕ) (before after : Catalog) (c : Command) → is_reap c ≡ true → (found : Option KvRow) → kv_at key before.kv ≡ found → not (is_some (kv_at key after.kv)) ≡ true
    → IsReached before c after (Key key ∷ (cond (is_some found) [] (Reaped ∷ [])))
unfolding fires
reaped_key key before after c r None was gone = second_reached before c after (Key key) Reaped [] r refl
reaped_key key before after c r (Some row) was gone = first_reached before c after (Key key) [] (ap (λ o. not (same_found same_kv o (kv_at key after.kv))) was ∙ absent (kv_at key after.kv) gone) refl
  where
    absent : (o : Option KvRow) → not (is_some o) ≡ true → not (same_found same_kv (Some row) o) ≡ true
    absent None h = refl
    absent (Some s) h = absurd (false≢true h)

-- what a reap touches
reap_reached : (q : Query) (before after : Catalog) (c : Command) → is_reap c ≡ true → is_reaped q after ≡ true → IsReached before c after (chans q before)
unfolding chans fires
reap_reached (q.Prefix prefix) before after c r h = second_reached before c after (Prefix prefix) Reaped [] r refl
reap_reached (q.Keys prefix separator) before after c r h = second_reached before c after (Prefix prefix) Reaped [] r refl
reap_reached (q.Key key) before after c r h = reaped_key key before after c r (kv_at key before.kv) refl h
reap_reached q.Nodes before after c r h = absurd (false≢true h)
reap_reached q.Services before after c r h = absurd (false≢true h)
reap_reached (q.Service name tags) before after c r h = absurd (false≢true h)
reap_reached (q.NodeServices node) before after c r h = absurd (false≢true h)
reap_reached (q.HealthService name tags passing) before after c r h = absurd (false≢true h)
reap_reached (q.HealthChecks name) before after c r h = absurd (false≢true h)
reap_reached (q.HealthNode node) before after c r h = absurd (false≢true h)
reap_reached (q.HealthState state) before after c r h = absurd (false≢true h)
reap_reached (q.SessionInfo id) before after c r h = absurd (false≢true h)
reap_reached (q.SessionsOf node) before after c r h = absurd (false≢true h)
reap_reached q.Sessions before after c r h = absurd (false≢true h)
reap_reached (q.QueryInfo id) before after c r h = absurd (false≢true h)
reap_reached q.Queries before after c r h = absurd (false≢true h)

-- a name that had rows and has none has other rows
name_fires : (name : List ℕ) (before after : Catalog) (c : Command) → has_name name before ≡ true → not (has_name name after) ≡ true → fires before c after (Service name) ≡ true
unfolding fires
name_fires name before after c was gone = go (same_catalog (service_rows name before) (service_rows name after)) refl
  where
    of_name : Catalog → Bool
    of_name k = list_any (λ s. same_text s.name name) k.services

    go : (b : Bool) → same_catalog (service_rows name before) (service_rows name after) ≡ b → not b ≡ true
    go false e = refl
    go true e =
        let same : of_name (service_rows name before) ≡ of_name (service_rows name after) = ap of_name ((catalog_decides _ _).0 e) in
        let there : has_name name after ≡ true = sym (any_filter (λ s. same_text s.name name) after.services) ∙ sym same ∙ any_filter (λ s. same_text s.name name) before.services ∙ was in
        absurd (false≢true (sym (ap not there) ∙ gone))

service_reached : (name : List ℕ) (before after : Catalog) (c : Command) → some_vanishes before after ≡ true → not (has_name name after) ≡ true → (b : Bool) → has_name name before ≡ b
    → IsReached before c after (Service name ∷ (cond b [] (Vanished ∷ [])))
unfolding fires
service_reached name before after c v gone true was = first_reached before c after (Service name) [] (name_fires name before after c was gone) refl
service_reached name before after c v gone false was = second_reached before c after (Service name) Vanished [] v refl

-- what a name that vanishes touches
vanish_reached : (q : Query) (before after : Catalog) (c : Command) → some_vanishes before after ≡ true → lacks_service q after ≡ true → IsReached before c after (chans q before)
unfolding chans
vanish_reached (q.Service name tags) before after c v h = service_reached name before after c v h (has_name name before) refl
vanish_reached (q.HealthService name tags passing) before after c v h = service_reached name before after c v h (has_name name before) refl
vanish_reached (q.Prefix prefix) before after c v h = absurd (false≢true h)
vanish_reached (q.Keys prefix separator) before after c v h = absurd (false≢true h)
vanish_reached (q.Key key) before after c v h = absurd (false≢true h)
vanish_reached q.Nodes before after c v h = absurd (false≢true h)
vanish_reached q.Services before after c v h = absurd (false≢true h)
vanish_reached (q.NodeServices node) before after c v h = absurd (false≢true h)
vanish_reached (q.HealthChecks name) before after c v h = absurd (false≢true h)
vanish_reached (q.HealthNode node) before after c v h = absurd (false≢true h)
vanish_reached (q.HealthState state) before after c v h = absurd (false≢true h)
vanish_reached (q.SessionInfo id) before after c v h = absurd (false≢true h)
vanish_reached (q.SessionsOf node) before after c v h = absurd (false≢true h)
vanish_reached q.Sessions before after c v h = absurd (false≢true h)
vanish_reached (q.QueryInfo id) before after c v h = absurd (false≢true h)
vanish_reached q.Queries before after c v h = absurd (false≢true h)

-- a node that was there and is not has other rows
host_fires : (node : List ℕ) (before after : Catalog) (c : Command) → has_node node before ≡ true → not (has_node node after) ≡ true → fires before c after (Node node) ≡ true
unfolding fires
host_fires node before after c was gone = go (same_catalog (node_rows node before) (node_rows node after)) refl
  where
    go : (b : Bool) → same_catalog (node_rows node before) (node_rows node after) ≡ b → not b ≡ true
    go false e = refl
    go true e =
        let there : has_node node after ≡ true = sym (same_host node before after (ap (λ k. k.nodes) ((catalog_decides _ _).0 e))) ∙ was in
        absurd (false≢true (sym (ap not there) ∙ gone))

host_reached : (node : List ℕ) (before after : Catalog) (c : Command) → some_node_goes before after ≡ true → not (has_node node after) ≡ true → (b : Bool) → has_node node before ≡ b
    → IsReached before c after (Node node ∷ cond b [] (NodeGone ∷ []))
unfolding fires
host_reached node before after c goes gone true was = first_reached before c after (Node node) [] (host_fires node before after c was gone) refl
host_reached node before after c goes gone false was = second_reached before c after (Node node) NodeGone [] goes refl

health_gone : (node : List ℕ) (before after : Catalog) (c : Command) → some_node_goes before after ≡ true → not (has_node node after) ≡ true → (b : Bool) → has_node node before ≡ b
    → IsReached before c after (Node node ∷ cond b (NodeChecks node) NodeGone ∷ [])
unfolding fires
health_gone node before after c goes gone true was = first_reached before c after (Node node) (NodeChecks node ∷ []) (host_fires node before after c was gone) refl
health_gone node before after c goes gone false was = second_reached before c after (Node node) NodeGone [] goes refl

-- what a node that goes touches
gone_reached : (q : Query) (before after : Catalog) (c : Command) → lacks_node q after ≡ true → some_node_goes before after ≡ true → IsReached before c after (chans q before)
unfolding chans
gone_reached (q.NodeServices node) before after c h g = host_reached node before after c g h (has_node node before) refl
gone_reached (q.HealthNode node) before after c h g = health_gone node before after c g h (has_node node before) refl
gone_reached (q.Service name tags) before after c h g = absurd (false≢true h)
gone_reached (q.HealthService name tags passing) before after c h g = absurd (false≢true h)
gone_reached (q.Prefix prefix) before after c h g = absurd (false≢true h)
gone_reached (q.Keys prefix separator) before after c h g = absurd (false≢true h)
gone_reached (q.Key key) before after c h g = absurd (false≢true h)
gone_reached q.Nodes before after c h g = absurd (false≢true h)
gone_reached q.Services before after c h g = absurd (false≢true h)
gone_reached (q.HealthChecks name) before after c h g = absurd (false≢true h)
gone_reached (q.HealthState state) before after c h g = absurd (false≢true h)
gone_reached (q.SessionInfo id) before after c h g = absurd (false≢true h)
gone_reached (q.SessionsOf node) before after c h g = absurd (false≢true h)
gone_reached q.Sessions before after c h g = absurd (false≢true h)
gone_reached (q.QueryInfo id) before after c h g = absurd (false≢true h)
gone_reached q.Queries before after c h g = absurd (false≢true h)

covers : (q : Query) (before after : Catalog) (c : Command) → KvAscends before.kv → KvAscends after.kv → NodesStand before → NodesStand after → touches q before c after ≡ true → IsReached before c after (chans q before)
unfolding touches
covers q before after c ab aa sb sa h =
    elim (or_cases _ _ h) [
      | inl first ↦ elim (or_cases _ _ first) [
        | inl either ↦ elim (or_cases _ _ either) [
          | inl goes ↦ (let parts = and_parts _ _ goes in gone_reached q before after c parts.0 parts.1)
          | inr differ ↦ reads_reached q before after c ab aa sb sa differ
        ]
        | inr reap ↦ (let parts = and_parts _ _ reap in reap_reached q before after c parts.0 parts.1)
      ]
      | inr vanish ↦ (let parts = and_parts _ _ vanish in vanish_reached q before after c parts.0 parts.1)
    ]

-- the covering law of any query, log and command
pub covering_law : (q : Query) (log : List Command) (c : Command) → CoveringLaw q log c
covering_law q log c h =
    let past : List Command = reverse log in
    let more : List Command = reverse (log ++ c ∷ []) in
    covers q (catalog_at log) (catalog_at (log ++ c ∷ [])) c (kv_ascends past) (kv_ascends more) (nodes_stand past) (nodes_stand more) h
