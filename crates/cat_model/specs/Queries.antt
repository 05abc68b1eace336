-- What each query reads of a catalog, and its answer, which is a function of that alone.
use Rattle.std.specs.Prelude.{ℕ, Bool, true, not, if◌then◌else◌, List, [], ◌∷◌, ◌++◌, Option, Some, None, nat_eq, ◌&&◌, ◌||◌, filter, length, map, take, drop}
use Rattle.std.specs.List.{list_any, list_all, filter_map}
use Rattle.cat_model.specs.Keys.{text_cmp, same_text, has_prefix, is_empty}
use Rattle.cat_model.specs.Tables.{put}
use Rattle.cat_model.specs.Same.{same_status}
use Rattle.cat_model.specs.Catalog.{Catalog, empty_catalog, node_at, service_at}
use Rattle.cat_model.specs.declared.row.KvRow.{KvRow}
use Rattle.cat_model.specs.declared.row.NodeRow.{NodeRow}
use Rattle.cat_model.specs.declared.row.ServiceRow.{ServiceRow}
use Rattle.cat_model.specs.declared.row.CheckRow.{CheckRow}
use Rattle.cat_model.specs.declared.query.CheckView.{CheckView}
use Rattle.cat_model.specs.declared.query.NameTags.{NameTags}
use Rattle.cat_model.specs.declared.query.Instance.{Instance}
use Rattle.cat_model.specs.declared.row.QueryRow.{QueryRow}
use Rattle.cat_model.specs.declared.row.Status.{Status}
use Rattle.cat_model.specs.declared.row.Status.TheVariants.{Passing}
use Rattle.cat_model.specs.declared.query.Query.{Query}
use Rattle.cat_model.specs.declared.query.Query.TheVariants as q
use Rattle.cat_model.specs.declared.query.Answer.{Answer}
use Rattle.cat_model.specs.declared.query.Answer.TheVariants as a

-- the rows of a service, of their nodes, and of the checks that count for its instances: a node's own, and an instance's
abbrev pub is_of : List ServiceRow → CheckRow → Bool
is_of services c = list_any (λ s. same_text s.node c.node && (is_empty c.service || same_text s.id c.service)) services

abbrev pub instance_rows : List ServiceRow → Catalog → Catalog
instance_rows services k =
    record empty_catalog {
      nodes = filter (λ n. list_any (λ s. same_text s.node n.node) services) k.nodes;
      services = services;
      checks = filter (is_of services) k.checks;
    }

abbrev pub service_rows : List ℕ → Catalog → Catalog
service_rows name k = instance_rows (filter (λ s. same_text s.name name) k.services) k

-- the row of a node with its services, and its checks
abbrev pub node_rows : List ℕ → Catalog → Catalog
node_rows node k =
    record empty_catalog {
      nodes = filter (λ r. same_text r.node node) k.nodes;
      services = filter (λ s. same_text s.node node) k.services;
    }

abbrev pub checks_of : List ℕ → Catalog → List CheckRow
checks_of node k = filter (λ c. same_text c.node node) k.checks

-- A catalog with the rows alone that the query reads.
unfoldable pub reads : Query → Catalog → Catalog
reads q.Nodes k = record empty_catalog { nodes = k.nodes }
reads q.Services k = record empty_catalog { services = k.services }
reads (q.Service name tags) k = service_rows name k
reads (q.NodeServices node) k = node_rows node k
reads (q.HealthService name tags passing) k = service_rows name k
reads (q.HealthChecks name) k = record empty_catalog { checks = k.checks; services = k.services }
reads (q.HealthNode node) k = record (node_rows node k) { checks = checks_of node k }
reads (q.HealthState state) k = record empty_catalog { checks = k.checks; services = k.services }
reads (q.Key key) k = record empty_catalog { kv = filter (λ r. same_text r.key key) k.kv }
reads (q.Prefix prefix) k = record empty_catalog { kv = filter (λ r. has_prefix prefix r.key) k.kv }
reads (q.Keys prefix separator) k = record empty_catalog { kv = filter (λ r. has_prefix prefix r.key) k.kv }
reads (q.SessionInfo id) k = record empty_catalog { sessions = k.sessions }
reads (q.SessionsOf node) k = record empty_catalog { sessions = k.sessions }
reads q.Sessions k = record empty_catalog { sessions = k.sessions }
reads (q.QueryInfo id) k = record empty_catalog { queries = k.queries }
reads q.Queries k = record empty_catalog { queries = k.queries }

-- Parts of answers.
abbrev pub name_of : Option ServiceRow → List ℕ
name_of None = []
name_of (Some s) = s.name

-- a check with the name of its service, which is empty for a node's own check
abbrev pub check_view : List ServiceRow → CheckRow → CheckView
check_view services c = record { row = c; service_name = if is_empty c.service then [] else name_of (service_at (c.node, c.service) services) }

abbrev pub instance_of : Catalog → ServiceRow → NodeRow → Instance
instance_of k s n = record { node = n; service = s; checks = map (check_view k.services) (filter (is_of (s ∷ [])) k.checks) }

-- an instance for each service whose node is there, by node name and then service ID
abbrev pub instances : Catalog → List Instance
instances k = filter_map (λ s. on_node s (node_at s.node k.nodes)) k.services
  where
    on_node : ServiceRow → Option NodeRow → Option Instance
    on_node s None = None
    on_node s (Some n) = Some (instance_of k s n)

-- a tag `!t` wants that t is absent
abbrev pub has_tag : List (List ℕ) → List ℕ → Bool
has_tag tags tag = list_any (same_text tag) tags

abbrev pub has_all_tags : List (List ℕ) → Instance → Bool
has_all_tags wanted x = list_all (has_tag x.service.tags) wanted

abbrev pub all_pass : Instance → Bool
all_pass x = list_all (λ c. same_status c.row.status Passing) x.checks

-- names in order, each once
abbrev pub with_name : List ℕ → List (List ℕ) → List (List ℕ)
with_name name names = put text_cmp (λ (n : List ℕ). n) name names

abbrev pub all_names : List (List ℕ) → List (List ℕ)
all_names [] = []
all_names (n ∷ ns) = with_name n (all_names ns)

abbrev pub all_tags : List ServiceRow → List (List ℕ)
all_tags [] = []
all_tags (s ∷ services) = s.tags ++ all_tags services

abbrev pub names_and_tags : List ServiceRow → List NameTags
names_and_tags services = map (λ n. record { name = n; tags = all_names (all_tags (filter (λ s. same_text s.name n) services)) }) (all_names (map (λ s. s.name) services))

-- a key up to and with the first separator behind the prefix; an empty separator cuts nothing
abbrev pub cut_after : List ℕ → List ℕ → List ℕ
cut_after separator [] = []
cut_after separator (x ∷ xs) = if has_prefix separator (x ∷ xs) then separator else x ∷ cut_after separator xs

abbrev pub cut_key : List ℕ → List ℕ → List ℕ → List ℕ
cut_key prefix separator key = if is_empty separator then key else take (length prefix) key ++ cut_after separator (drop (length prefix) key)

abbrev pub rows_or_absent : List KvRow → Answer
rows_or_absent [] = a.Absent
rows_or_absent (r ∷ rows) = a.Rows (r ∷ rows)

abbrev pub queries_or_absent : List QueryRow → Answer
queries_or_absent [] = a.Absent
queries_or_absent (r ∷ rows) = a.Queries (r ∷ rows)

abbrev pub has_status : Option Status → CheckRow → Bool
has_status None c = true
has_status (Some s) c = same_status c.status s

abbrev pub check_views : (CheckRow → Bool) → Catalog → Answer
check_views test k = a.Checks (map (check_view k.services) (filter test k.checks))

abbrev pub service_named : Catalog → List ℕ → CheckRow → Bool
service_named k name c = same_text (check_view k.services c).service_name name && not (is_empty c.service)

-- the answer from the rows that the query reads
unfoldable pub answer_from : Query → Catalog → Answer
answer_from q.Nodes k = a.Nodes k.nodes
answer_from q.Services k = a.Services (names_and_tags k.services)
answer_from (q.Service name tags) k = a.Instances (filter (has_all_tags tags) (instances k))
answer_from (q.NodeServices node) k = a.NodeView (node_at node k.nodes) (filter (λ s. same_text s.node node) k.services)
answer_from (q.HealthService name tags passing) k =
    a.Instances (filter (λ x. has_all_tags tags x && (not passing || all_pass x)) (instances k))
answer_from (q.HealthChecks name) k = check_views (service_named k name) k
answer_from (q.HealthNode node) k = check_views (λ c. same_text c.node node) k
answer_from (q.HealthState state) k = check_views (has_status state) k
answer_from (q.Key key) k = rows_or_absent k.kv
answer_from (q.Prefix prefix) k = a.Rows k.kv
answer_from (q.Keys prefix separator) k = a.Names (all_names (map (λ r. cut_key prefix separator r.key) k.kv))
answer_from (q.SessionInfo id) k = a.Sessions (filter (λ s. nat_eq s.id id) k.sessions)
answer_from (q.SessionsOf node) k = a.Sessions (filter (λ s. same_text s.node node) k.sessions)
answer_from q.Sessions k = a.Sessions k.sessions
answer_from (q.QueryInfo id) k = queries_or_absent (filter (λ x. nat_eq x.id id) k.queries)
answer_from q.Queries k = a.Queries k.queries

-- the answer at a catalog: equal reads give equal answers
abbrev pub answer : Query → Catalog → Answer
answer q k = answer_from q (reads q k)
