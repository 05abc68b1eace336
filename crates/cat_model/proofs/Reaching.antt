-- What hangs on the reads of a query, and on which channels a step reaches it.
use Rattle.std.proofs.Common.{◌≡◌, ℕ, Bool, true, cond, List, [], ◌∷◌, ◌++◌, refl, sym, ◌∙◌, ap, is_some, filter, Contains}
use Rattle.std.specs.List.{list_any}
use Rattle.std.specs.Bool.{Decides}
use Rattle.std.proofs.lemmas.Bool.{false≢true}
use Rattle.std.proofs.lemmas.List.Folds.{list_any_at}
use Rattle.std.proofs.lemmas.Cmp.{nat_list_cmp_total}
use Rattle.std.proofs.lemmas.Map.Lookups.{exact_bytes}
use Rattle.cat_model.specs.Keys.{text_cmp, same_text}
use Rattle.cat_model.specs.Tables.{row_at}
use Rattle.cat_model.specs.Catalog.{Catalog, kv_key, kv_at}
use Rattle.cat_model.specs.Queries.{reads, answer_from}
use Rattle.cat_model.specs.Machine.{catalog_at}
use Rattle.cat_model.specs.Indexes.{has_name}
use Rattle.cat_model.specs.Channels.{chans, Reaches, IsReached}
use Rattle.cat_model.specs.Reach.{reaches, is_on, ReadsLaw, HitLaw}
use Rattle.cat_model.specs.declared.query.Query.{Query}
use Rattle.cat_model.specs.declared.query.Query.TheVariants as q
use Rattle.cat_model.specs.declared.command.Command.{Command}
use Rattle.cat_model.specs.declared.query.Chan.{Chan}
use Rattle.cat_model.specs.declared.query.Chan.TheVariants.{Nodes, Services, Checks, Sessions, Queries, Service, Vanished, Node, NodeChecks, NodeGone, Key, Prefix, Reaped}
use Rattle.cat_model.proofs.SameLemmas.{text_decides}
use Rattle.cat_model.proofs.TableLemmas.{row_at-filter}
use Rattle.cat_model.proofs.Covering.{covering_law, any_filter, same_host}

-- a name has rows where its reads have
pub same_name : (name : List ℕ) (before after : Catalog) → filter (λ s. same_text s.name name) before.services ≡ filter (λ s. same_text s.name name) after.services → has_name name before ≡ has_name name after
same_name name before after e = sym (any_filter (λ s. same_text s.name name) before.services) ∙ ap (list_any (λ s. same_text s.name name)) e ∙ any_filter (λ s. same_text s.name name) after.services

-- and a key a row
same_key : (key : List ℕ) (before after : Catalog) → filter (λ r. same_text r.key key) before.kv ≡ filter (λ r. same_text r.key key) after.kv → kv_at key before.kv ≡ kv_at key after.kv
same_key key before after e = sym (found before) ∙ ap (row_at text_cmp kv_key key) e ∙ found after
  where
    found : (k : Catalog) → row_at text_cmp kv_key key (filter (λ r. same_text r.key key) k.kv) ≡ kv_at key k.kv
    found k = row_at-filter text_cmp kv_key nat_list_cmp_total exact_bytes (λ k. same_text k key) key ((text_decides key key).1 refl) k.kv

abbrev on_name : List ℕ → Bool → List Chan
on_name name b = Service name ∷ cond b [] (Vanished ∷ [])

abbrev on_node : List ℕ → Bool → List Chan
on_node node b = Node node ∷ cond b [] (NodeGone ∷ [])

abbrev on_health : List ℕ → Bool → List Chan
on_health node b = Node node ∷ cond b (NodeChecks node) NodeGone ∷ []

-- equal reads give equal channels
pub same_chans : (q : Query) (before after : Catalog) → reads q before ≡ reads q after → chans q before ≡ chans q after
unfolding chans reads
same_chans q.Nodes before after e = refl
same_chans q.Services before after e = refl
same_chans (q.Service name tags) before after e = ap (on_name name) (same_name name before after (ap (λ k. k.services) e))
same_chans (q.NodeServices node) before after e = ap (on_node node) (same_host node before after (ap (λ k. k.nodes) e))
same_chans (q.HealthService name tags passing) before after e = ap (on_name name) (same_name name before after (ap (λ k. k.services) e))
same_chans (q.HealthChecks name) before after e = refl
same_chans (q.HealthNode node) before after e = ap (on_health node) (same_host node before after (ap (λ k. k.nodes) e))
same_chans (q.HealthState state) before after e = refl
same_chans (q.Key key) before after e = ap (λ o. Key key ∷ cond (is_some o) [] (Reaped ∷ [])) (same_key key before after (ap (λ k. k.kv) e))
same_chans (q.Prefix prefix) before after e = refl
same_chans (q.Keys prefix separator) before after e = refl
same_chans (q.SessionInfo id) before after e = refl
same_chans (q.SessionsOf node) before after e = refl
same_chans q.Sessions before after e = refl
same_chans (q.QueryInfo id) before after e = refl
same_chans q.Queries before after e = refl

-- equal reads give equal answers and equal channels
pub reads_law : (q : Query) (before after : Catalog) → ReadsLaw q before after
reads_law q before after e = (ap (answer_from q) e, same_chans q before after e)

-- The test says what the relation does.
reaches_itself : (c : Chan) → reaches c c ≡ true
unfolding reaches
reaches_itself Nodes = refl
reaches_itself Services = refl
reaches_itself Checks = refl
reaches_itself Sessions = refl
reaches_itself Queries = refl
reaches_itself (Service name) = (text_decides name name).1 refl
reaches_itself Vanished = refl
reaches_itself (Node node) = (text_decides node node).1 refl
reaches_itself (NodeChecks node) = (text_decides node node).1 refl
reaches_itself NodeGone = refl
reaches_itself (Key key) = (text_decides key key).1 refl
reaches_itself (Prefix prefix) = (text_decides prefix prefix).1 refl
reaches_itself Reaped = refl

equal_reaches : (f c : Chan) → f ≡ c → reaches f c ≡ true
equal_reaches f c e = ap (reaches f) (sym e) ∙ reaches_itself f

pub is_reaching : (f c : Chan) → Reaches f c → reaches f c ≡ true
unfolding reaches
is_reaching Nodes c r = equal_reaches Nodes c r
is_reaching Services c r = equal_reaches Services c r
is_reaching Checks c r = equal_reaches Checks c r
is_reaching Sessions c r = equal_reaches Sessions c r
is_reaching Queries c r = equal_reaches Queries c r
is_reaching (Service name) c r = equal_reaches (Service name) c r
is_reaching Vanished c r = equal_reaches Vanished c r
is_reaching (Node node) c r = equal_reaches (Node node) c r
is_reaching (NodeChecks node) c r = equal_reaches (NodeChecks node) c r
is_reaching NodeGone c r = equal_reaches NodeGone c r
is_reaching (Key key) (Prefix prefix) r = r
is_reaching (Key key) Nodes r = equal_reaches (Key key) Nodes r
is_reaching (Key key) Services r = equal_reaches (Key key) Services r
is_reaching (Key key) Checks r = equal_reaches (Key key) Checks r
is_reaching (Key key) Sessions r = equal_reaches (Key key) Sessions r
is_reaching (Key key) Queries r = equal_reaches (Key key) Queries r
is_reaching (Key key) (Service name) r = equal_reaches (Key key) (Service name) r
is_reaching (Key key) Vanished r = equal_reaches (Key key) Vanished r
is_reaching (Key key) (Node node) r = equal_reaches (Key key) (Node node) r
is_reaching (Key key) (NodeChecks node) r = equal_reaches (Key key) (NodeChecks node) r
is_reaching (Key key) NodeGone r = equal_reaches (Key key) NodeGone r
is_reaching (Key key) (Key other) r = equal_reaches (Key key) (Key other) r
is_reaching (Key key) Reaped r = equal_reaches (Key key) Reaped r
is_reaching (Prefix prefix) c r = equal_reaches (Prefix prefix) c r
is_reaching Reaped c r = equal_reaches Reaped c r

-- a test that is false on all but one variant
name_reaches : (name : List ℕ) (c : Chan) → reaches (Service name) c ≡ true → Service name ≡ c
unfolding reaches
name_reaches name (Service other) h = ap Service ((text_decides name other).0 h)
name_reaches name Nodes h = absurd (false≢true h)
name_reaches name Services h = absurd (false≢true h)
name_reaches name Checks h = absurd (false≢true h)
name_reaches name Sessions h = absurd (false≢true h)
name_reaches name Queries h = absurd (false≢true h)
name_reaches name Vanished h = absurd (false≢true h)
name_reaches name (Node node) h = absurd (false≢true h)
name_reaches name (NodeChecks node) h = absurd (false≢true h)
name_reaches name NodeGone h = absurd (false≢true h)
name_reaches name (Key key) h = absurd (false≢true h)
name_reaches name (Prefix prefix) h = absurd (false≢true h)
name_reaches name Reaped h = absurd (false≢true h)

node_reaches : (node : List ℕ) (c : Chan) → reaches (Node node) c ≡ true → Node node ≡ c
unfolding reaches
node_reaches node (Node other) h = ap Node ((text_decides node other).0 h)
node_reaches node Nodes h = absurd (false≢true h)
node_reaches node Services h = absurd (false≢true h)
node_reaches node Checks h = absurd (false≢true h)
node_reaches node Sessions h = absurd (false≢true h)
node_reaches node Queries h = absurd (false≢true h)
node_reaches node (Service name) h = absurd (false≢true h)
node_reaches node Vanished h = absurd (false≢true h)
node_reaches node (NodeChecks other) h = absurd (false≢true h)
node_reaches node NodeGone h = absurd (false≢true h)
node_reaches node (Key key) h = absurd (false≢true h)
node_reaches node (Prefix prefix) h = absurd (false≢true h)
node_reaches node Reaped h = absurd (false≢true h)

node_checks_reaches : (node : List ℕ) (c : Chan) → reaches (NodeChecks node) c ≡ true → NodeChecks node ≡ c
unfolding reaches
node_checks_reaches node (NodeChecks other) h = ap NodeChecks ((text_decides node other).0 h)
node_checks_reaches node Nodes h = absurd (false≢true h)
node_checks_reaches node Services h = absurd (false≢true h)
node_checks_reaches node Checks h = absurd (false≢true h)
node_checks_reaches node Sessions h = absurd (false≢true h)
node_checks_reaches node Queries h = absurd (false≢true h)
node_checks_reaches node (Service name) h = absurd (false≢true h)
node_checks_reaches node Vanished h = absurd (false≢true h)
node_checks_reaches node (Node other) h = absurd (false≢true h)
node_checks_reaches node NodeGone h = absurd (false≢true h)
node_checks_reaches node (Key key) h = absurd (false≢true h)
node_checks_reaches node (Prefix prefix) h = absurd (false≢true h)
node_checks_reaches node Reaped h = absurd (false≢true h)

node_gone_reaches : (c : Chan) → reaches NodeGone c ≡ true → NodeGone ≡ c
unfolding reaches
node_gone_reaches NodeGone h = refl
node_gone_reaches Nodes h = absurd (false≢true h)
node_gone_reaches Services h = absurd (false≢true h)
node_gone_reaches Checks h = absurd (false≢true h)
node_gone_reaches Sessions h = absurd (false≢true h)
node_gone_reaches Queries h = absurd (false≢true h)
node_gone_reaches (Service name) h = absurd (false≢true h)
node_gone_reaches Vanished h = absurd (false≢true h)
node_gone_reaches (Node node) h = absurd (false≢true h)
node_gone_reaches (NodeChecks node) h = absurd (false≢true h)
node_gone_reaches (Key key) h = absurd (false≢true h)
node_gone_reaches (Prefix prefix) h = absurd (false≢true h)
node_gone_reaches Reaped h = absurd (false≢true h)

prefix_reaches : (prefix : List ℕ) (c : Chan) → reaches (Prefix prefix) c ≡ true → Prefix prefix ≡ c
unfolding reaches
prefix_reaches prefix (Prefix other) h = ap Prefix ((text_decides prefix other).0 h)
prefix_reaches prefix Nodes h = absurd (false≢true h)
prefix_reaches prefix Services h = absurd (false≢true h)
prefix_reaches prefix Checks h = absurd (false≢true h)
prefix_reaches prefix Sessions h = absurd (false≢true h)
prefix_reaches prefix Queries h = absurd (false≢true h)
prefix_reaches prefix Vanished h = absurd (false≢true h)
prefix_reaches prefix (Node node) h = absurd (false≢true h)
prefix_reaches prefix (NodeChecks node) h = absurd (false≢true h)
prefix_reaches prefix NodeGone h = absurd (false≢true h)
prefix_reaches prefix (Key key) h = absurd (false≢true h)
prefix_reaches prefix (Service name) h = absurd (false≢true h)
prefix_reaches prefix Reaped h = absurd (false≢true h)

key_reaches : (key : List ℕ) (c : Chan) → reaches (Key key) c ≡ true → Reaches (Key key) c
unfolding reaches
key_reaches key (Key other) h = ap Key ((text_decides key other).0 h)
key_reaches key (Prefix prefix) h = h
key_reaches key Nodes h = absurd (false≢true h)
key_reaches key Services h = absurd (false≢true h)
key_reaches key Checks h = absurd (false≢true h)
key_reaches key Sessions h = absurd (false≢true h)
key_reaches key Queries h = absurd (false≢true h)
key_reaches key Vanished h = absurd (false≢true h)
key_reaches key (Node node) h = absurd (false≢true h)
key_reaches key (NodeChecks node) h = absurd (false≢true h)
key_reaches key NodeGone h = absurd (false≢true h)
key_reaches key (Service name) h = absurd (false≢true h)
key_reaches key Reaped h = absurd (false≢true h)

nodes_reaches : (c : Chan) → reaches Nodes c ≡ true → Nodes ≡ c
unfolding reaches
nodes_reaches Nodes h = refl
nodes_reaches Services h = absurd (false≢true h)
nodes_reaches Checks h = absurd (false≢true h)
nodes_reaches Sessions h = absurd (false≢true h)
nodes_reaches Queries h = absurd (false≢true h)
nodes_reaches (Service name) h = absurd (false≢true h)
nodes_reaches Vanished h = absurd (false≢true h)
nodes_reaches (Node node) h = absurd (false≢true h)
nodes_reaches (NodeChecks node) h = absurd (false≢true h)
nodes_reaches NodeGone h = absurd (false≢true h)
nodes_reaches (Key key) h = absurd (false≢true h)
nodes_reaches (Prefix prefix) h = absurd (false≢true h)
nodes_reaches Reaped h = absurd (false≢true h)

services_reaches : (c : Chan) → reaches Services c ≡ true → Services ≡ c
unfolding reaches
services_reaches Services h = refl
services_reaches Nodes h = absurd (false≢true h)
services_reaches Checks h = absurd (false≢true h)
services_reaches Sessions h = absurd (false≢true h)
services_reaches Queries h = absurd (false≢true h)
services_reaches (Service name) h = absurd (false≢true h)
services_reaches Vanished h = absurd (false≢true h)
services_reaches (Node node) h = absurd (false≢true h)
services_reaches (NodeChecks node) h = absurd (false≢true h)
services_reaches NodeGone h = absurd (false≢true h)
services_reaches (Key key) h = absurd (false≢true h)
services_reaches (Prefix prefix) h = absurd (false≢true h)
services_reaches Reaped h = absurd (false≢true h)

checks_reaches : (c : Chan) → reaches Checks c ≡ true → Checks ≡ c
unfolding reaches
checks_reaches Checks h = refl
checks_reaches Nodes h = absurd (false≢true h)
checks_reaches Services h = absurd (false≢true h)
checks_reaches Sessions h = absurd (false≢true h)
checks_reaches Queries h = absurd (false≢true h)
checks_reaches (Service name) h = absurd (false≢true h)
checks_reaches Vanished h = absurd (false≢true h)
checks_reaches (Node node) h = absurd (false≢true h)
checks_reaches (NodeChecks node) h = absurd (false≢true h)
checks_reaches NodeGone h = absurd (false≢true h)
checks_reaches (Key key) h = absurd (false≢true h)
checks_reaches (Prefix prefix) h = absurd (false≢true h)
checks_reaches Reaped h = absurd (false≢true h)

sessions_reaches : (c : Chan) → reaches Sessions c ≡ true → Sessions ≡ c
unfolding reaches
sessions_reaches Sessions h = refl
sessions_reaches Nodes h = absurd (false≢true h)
sessions_reaches Services h = absurd (false≢true h)
sessions_reaches Checks h = absurd (false≢true h)
sessions_reaches Queries h = absurd (false≢true h)
sessions_reaches (Service name) h = absurd (false≢true h)
sessions_reaches Vanished h = absurd (false≢true h)
sessions_reaches (Node node) h = absurd (false≢true h)
sessions_reaches (NodeChecks node) h = absurd (false≢true h)
sessions_reaches NodeGone h = absurd (false≢true h)
sessions_reaches (Key key) h = absurd (false≢true h)
sessions_reaches (Prefix prefix) h = absurd (false≢true h)
sessions_reaches Reaped h = absurd (false≢true h)

queries_reaches : (c : Chan) → reaches Queries c ≡ true → Queries ≡ c
unfolding reaches
queries_reaches Queries h = refl
queries_reaches Nodes h = absurd (false≢true h)
queries_reaches Services h = absurd (false≢true h)
queries_reaches Checks h = absurd (false≢true h)
queries_reaches Sessions h = absurd (false≢true h)
queries_reaches (Service name) h = absurd (false≢true h)
queries_reaches Vanished h = absurd (false≢true h)
queries_reaches (Node node) h = absurd (false≢true h)
queries_reaches (NodeChecks node) h = absurd (false≢true h)
queries_reaches NodeGone h = absurd (false≢true h)
queries_reaches (Key key) h = absurd (false≢true h)
queries_reaches (Prefix prefix) h = absurd (false≢true h)
queries_reaches Reaped h = absurd (false≢true h)

vanished_reaches : (c : Chan) → reaches Vanished c ≡ true → Vanished ≡ c
unfolding reaches
vanished_reaches Vanished h = refl
vanished_reaches Nodes h = absurd (false≢true h)
vanished_reaches Services h = absurd (false≢true h)
vanished_reaches Checks h = absurd (false≢true h)
vanished_reaches Sessions h = absurd (false≢true h)
vanished_reaches Queries h = absurd (false≢true h)
vanished_reaches (Service name) h = absurd (false≢true h)
vanished_reaches (Node node) h = absurd (false≢true h)
vanished_reaches (NodeChecks node) h = absurd (false≢true h)
vanished_reaches NodeGone h = absurd (false≢true h)
vanished_reaches (Key key) h = absurd (false≢true h)
vanished_reaches (Prefix prefix) h = absurd (false≢true h)
vanished_reaches Reaped h = absurd (false≢true h)

reaped_reaches : (c : Chan) → reaches Reaped c ≡ true → Reaped ≡ c
unfolding reaches
reaped_reaches Reaped h = refl
reaped_reaches Nodes h = absurd (false≢true h)
reaped_reaches Services h = absurd (false≢true h)
reaped_reaches Checks h = absurd (false≢true h)
reaped_reaches Sessions h = absurd (false≢true h)
reaped_reaches Queries h = absurd (false≢true h)
reaped_reaches (Service name) h = absurd (false≢true h)
reaped_reaches Vanished h = absurd (false≢true h)
reaped_reaches (Node node) h = absurd (false≢true h)
reaped_reaches (NodeChecks node) h = absurd (false≢true h)
reaped_reaches NodeGone h = absurd (false≢true h)
reaped_reaches (Key key) h = absurd (false≢true h)
reaped_reaches (Prefix prefix) h = absurd (false≢true h)

pub reach_law : (f c : Chan) → Decides (reaches f c) (Reaches f c)
reach_law f c = (told f, is_reaching f c)
  where
    told : (f : Chan) → reaches f c ≡ true → Reaches f c
    told Nodes h = nodes_reaches c h
    told Services h = services_reaches c h
    told Checks h = checks_reaches c h
    told Sessions h = sessions_reaches c h
    told Queries h = queries_reaches c h
    told (Service name) h = name_reaches name c h
    told Vanished h = vanished_reaches c h
    told (Node node) h = node_reaches node c h
    told (NodeChecks node) h = node_checks_reaches node c h
    told NodeGone h = node_gone_reaches c h
    told (Key key) h = key_reaches key c h
    told (Prefix prefix) h = prefix_reaches prefix c h
    told Reaped h = reaped_reaches c h

found_any : {A : Type 0} (p : A → Bool) (xs : List A) (x : A) → Contains xs x → p x ≡ true → list_any p xs ≡ true
found_any p xs x h t = list_any_at p xs h.0 x h.1 (ap p h.2 ∙ t)

pub hit_by : (fired hangs : List Chan) (f c : Chan) → Contains fired f → Contains hangs c → Reaches f c → is_on fired hangs ≡ true
unfolding is_on
hit_by fired hangs f c hf hc r = found_any (λ h. list_any (λ f'. reaches f' h) fired) hangs c hc (found_any (λ f'. reaches f' c) fired f hf (is_reaching f c r))

-- what touches a query fires a list that is on the query's channels
pub hit_law : (q : Query) (log : List Command) (c : Command) (fired : List Chan) → HitLaw q log c fired
hit_law q log c fired all touched =
    let r : IsReached (catalog_at log) c (catalog_at (log ++ c ∷ [])) (chans q (catalog_at log)) = covering_law q log c touched in
    hit_by fired (chans q (catalog_at log)) r.fired r.chan (all.whole r.fired r.fires) r.stands r.reaches
