-- The tests on rows decide equality.
use Rattle.std.proofs.Common.{◌≡◌, ℕ, Bool, true, false, List, Option, Some, None, refl, ap, subst}
use Rattle.std.specs.Bool.{Decides}
use Rattle.std.specs.Cmp.Lexicographic.{pointwise_decides, bytes_decides}
use Rattle.std.proofs.lemmas.Bool.{and_parts, and_from, false≢true}
use Rattle.std.proofs.lemmas.Bool.Decides.{Decides-eqb}
use Rattle.cat_model.specs.Keys.{same_text, same_texts, same_option}
use Rattle.cat_model.specs.Same.{same_bool, same_status, same_behavior, same_node, same_service, same_check, same_kv, same_session, same_query}
use Rattle.cat_model.specs.Catalog.{Catalog, same_catalog}
use Rattle.cat_model.specs.declared.row.KvRow.{KvRow}
use Rattle.cat_model.specs.declared.row.NodeRow.{NodeRow}
use Rattle.cat_model.specs.declared.row.ServiceRow.{ServiceRow}
use Rattle.cat_model.specs.declared.row.CheckRow.{CheckRow}
use Rattle.cat_model.specs.declared.row.SessionRow.{SessionRow}
use Rattle.cat_model.specs.declared.row.QueryRow.{QueryRow}
use Rattle.cat_model.specs.declared.row.Status.{Status}
use Rattle.cat_model.specs.declared.row.Status.TheVariants.{Passing, Warning, Critical}
use Rattle.cat_model.specs.declared.row.Behavior.{Behavior}
use Rattle.cat_model.specs.declared.row.Behavior.TheVariants.{Release, Delete}

-- a test that finds equal things equal, and each thing equal to itself, decides equality
pub decides_by : {A : Type 0} (same : A → A → Bool) → ((a b : A) → same a b ≡ true → a ≡ b) → ((a : A) → same a a ≡ true) → (a b : A) → Decides (same a b) (a ≡ b)
decides_by same sound own a b = (sound a b, λ e. subst (λ x. same a x ≡ true) e (own a))

pub text_decides : (a b : List ℕ) → Decides (same_text a b) (a ≡ b)
text_decides = bytes_decides

pub texts_decides : (a b : List (List ℕ)) → Decides (same_texts a b) (a ≡ b)
texts_decides = pointwise_decides text_decides

pub option_decides : (a b : Option ℕ) → Decides (same_option a b) (a ≡ b)
option_decides = decides_by same_option sound own
  where
    sound : (a b : Option ℕ) → same_option a b ≡ true → a ≡ b
    sound None None h = refl
    sound None (Some y) h = absurd (false≢true h)
    sound (Some x) None h = absurd (false≢true h)
    sound (Some x) (Some y) h = ap Some ((Decides-eqb x y).0 h)

    own : (a : Option ℕ) → same_option a a ≡ true
    own None = refl
    own (Some x) = (Decides-eqb x x).1 refl

pub bool_decides : (a b : Bool) → Decides (same_bool a b) (a ≡ b)
bool_decides = decides_by same_bool sound own
  where
    sound : (a b : Bool) → same_bool a b ≡ true → a ≡ b
    sound true true h = refl
    sound false false h = refl
    sound true false h = absurd (false≢true h)
    sound false true h = absurd (false≢true h)

    own : (a : Bool) → same_bool a a ≡ true
    own true = refl
    own false = refl

pub status_decides : (a b : Status) → Decides (same_status a b) (a ≡ b)
status_decides = decides_by same_status sound own
  where
    sound : (a b : Status) → same_status a b ≡ true → a ≡ b
    sound Passing Passing h = refl
    sound Passing Warning h = absurd (false≢true h)
    sound Passing Critical h = absurd (false≢true h)
    sound Warning Passing h = absurd (false≢true h)
    sound Warning Warning h = refl
    sound Warning Critical h = absurd (false≢true h)
    sound Critical Passing h = absurd (false≢true h)
    sound Critical Warning h = absurd (false≢true h)
    sound Critical Critical h = refl

    own : (a : Status) → same_status a a ≡ true
    own Passing = refl
    own Warning = refl
    own Critical = refl

behavior_decides : (a b : Behavior) → Decides (same_behavior a b) (a ≡ b)
behavior_decides = decides_by same_behavior sound own
  where
    sound : (a b : Behavior) → same_behavior a b ≡ true → a ≡ b
    sound Release Release h = refl
    sound Delete Delete h = refl
    sound Release Delete h = absurd (false≢true h)
    sound Delete Release h = absurd (false≢true h)

    own : (a : Behavior) → same_behavior a a ≡ true
    own Release = refl
    own Delete = refl

pub node_decides : (a b : NodeRow) → Decides (same_node a b) (a ≡ b)
unfolding same_node
node_decides = decides_by same_node sound own
  where
    sound : (a b : NodeRow) → same_node a b ≡ true → a ≡ b
    sound a b h =
        let p3 = and_parts _ _ h in
        let p2 = and_parts _ _ p3.0 in
        let p1 = and_parts _ _ p2.0 in
        λ i. record { node = (text_decides a.node b.node).0 p1.0 i; address = (text_decides a.address b.address).0 p1.1 i; create = (Decides-eqb a.create b.create).0 p2.1 i; modify = (Decides-eqb a.modify b.modify).0 p3.1 i }

    own : (a : NodeRow) → same_node a a ≡ true
    own a = (and_from _ _ (and_from _ _ (and_from _ _ ((text_decides a.node a.node).1 refl) ((text_decides a.address a.address).1 refl)) ((Decides-eqb a.create a.create).1 refl)) ((Decides-eqb a.modify a.modify).1 refl))

pub service_decides : (a b : ServiceRow) → Decides (same_service a b) (a ≡ b)
unfolding same_service
service_decides = decides_by same_service sound own
  where
    sound : (a b : ServiceRow) → same_service a b ≡ true → a ≡ b
    sound a b h =
        let p8 = and_parts _ _ h in
        let p7 = and_parts _ _ p8.0 in
        let p6 = and_parts _ _ p7.0 in
        let p5 = and_parts _ _ p6.0 in
        let p4 = and_parts _ _ p5.0 in
        let p3 = and_parts _ _ p4.0 in
        let p2 = and_parts _ _ p3.0 in
        let p1 = and_parts _ _ p2.0 in
        λ i. record { node = (text_decides a.node b.node).0 p1.0 i; id = (text_decides a.id b.id).0 p1.1 i; name = (text_decides a.name b.name).0 p2.1 i; tags = (texts_decides a.tags b.tags).0 p3.1 i; address = (text_decides a.address b.address).0 p4.1 i; port = (Decides-eqb a.port b.port).0 p5.1 i; tag_override = (bool_decides a.tag_override b.tag_override).0 p6.1 i; create = (Decides-eqb a.create b.create).0 p7.1 i; modify = (Decides-eqb a.modify b.modify).0 p8.1 i }

    own : (a : ServiceRow) → same_service a a ≡ true
    own a = (and_from _ _ (and_from _ _ (and_from _ _ (and_from _ _ (and_from _ _ (and_from _ _ (and_from _ _ (and_from _ _ ((text_decides a.node a.node).1 refl) ((text_decides a.id a.id).1 refl)) ((text_decides a.name a.name).1 refl)) ((texts_decides a.tags a.tags).1 refl)) ((text_decides a.address a.address).1 refl)) ((Decides-eqb a.port a.port).1 refl)) ((bool_decides a.tag_override a.tag_override).1 refl)) ((Decides-eqb a.create a.create).1 refl)) ((Decides-eqb a.modify a.modify).1 refl))

pub check_decides : (a b : CheckRow) → Decides (same_check a b) (a ≡ b)
unfolding same_check
check_decides = decides_by same_check sound own
  where
    sound : (a b : CheckRow) → same_check a b ≡ true → a ≡ b
    sound a b h =
        let p8 = and_parts _ _ h in
        let p7 = and_parts _ _ p8.0 in
        let p6 = and_parts _ _ p7.0 in
        let p5 = and_parts _ _ p6.0 in
        let p4 = and_parts _ _ p5.0 in
        let p3 = and_parts _ _ p4.0 in
        let p2 = and_parts _ _ p3.0 in
        let p1 = and_parts _ _ p2.0 in
        λ i. record { node = (text_decides a.node b.node).0 p1.0 i; id = (text_decides a.id b.id).0 p1.1 i; name = (text_decides a.name b.name).0 p2.1 i; status = (status_decides a.status b.status).0 p3.1 i; notes = (text_decides a.notes b.notes).0 p4.1 i; output = (text_decides a.output b.output).0 p5.1 i; service = (text_decides a.service b.service).0 p6.1 i; create = (Decides-eqb a.create b.create).0 p7.1 i; modify = (Decides-eqb a.modify b.modify).0 p8.1 i }

    own : (a : CheckRow) → same_check a a ≡ true
    own a = (and_from _ _ (and_from _ _ (and_from _ _ (and_from _ _ (and_from _ _ (and_from _ _ (and_from _ _ (and_from _ _ ((text_decides a.node a.node).1 refl) ((text_decides a.id a.id).1 refl)) ((text_decides a.name a.name).1 refl)) ((status_decides a.status a.status).1 refl)) ((text_decides a.notes a.notes).1 refl)) ((text_decides a.output a.output).1 refl)) ((text_decides a.service a.service).1 refl)) ((Decides-eqb a.create a.create).1 refl)) ((Decides-eqb a.modify a.modify).1 refl))

pub kv_decides : (a b : KvRow) → Decides (same_kv a b) (a ≡ b)
unfolding same_kv
kv_decides = decides_by same_kv sound own
  where
    sound : (a b : KvRow) → same_kv a b ≡ true → a ≡ b
    sound a b h =
        let p6 = and_parts _ _ h in
        let p5 = and_parts _ _ p6.0 in
        let p4 = and_parts _ _ p5.0 in
        let p3 = and_parts _ _ p4.0 in
        let p2 = and_parts _ _ p3.0 in
        let p1 = and_parts _ _ p2.0 in
        λ i. record { key = (text_decides a.key b.key).0 p1.0 i; value = (text_decides a.value b.value).0 p1.1 i; flags = (Decides-eqb a.flags b.flags).0 p2.1 i; session = (option_decides a.session b.session).0 p3.1 i; lock_index = (Decides-eqb a.lock_index b.lock_index).0 p4.1 i; create = (Decides-eqb a.create b.create).0 p5.1 i; modify = (Decides-eqb a.modify b.modify).0 p6.1 i }

    own : (a : KvRow) → same_kv a a ≡ true
    own a = (and_from _ _ (and_from _ _ (and_from _ _ (and_from _ _ (and_from _ _ (and_from _ _ ((text_decides a.key a.key).1 refl) ((text_decides a.value a.value).1 refl)) ((Decides-eqb a.flags a.flags).1 refl)) ((option_decides a.session a.session).1 refl)) ((Decides-eqb a.lock_index a.lock_index).1 refl)) ((Decides-eqb a.create a.create).1 refl)) ((Decides-eqb a.modify a.modify).1 refl))

pub session_decides : (a b : SessionRow) → Decides (same_session a b) (a ≡ b)
unfolding same_session
session_decides = decides_by same_session sound own
  where
    sound : (a b : SessionRow) → same_session a b ≡ true → a ≡ b
    sound a b h =
        let p8 = and_parts _ _ h in
        let p7 = and_parts _ _ p8.0 in
        let p6 = and_parts _ _ p7.0 in
        let p5 = and_parts _ _ p6.0 in
        let p4 = and_parts _ _ p5.0 in
        let p3 = and_parts _ _ p4.0 in
        let p2 = and_parts _ _ p3.0 in
        let p1 = and_parts _ _ p2.0 in
        λ i. record { id = (Decides-eqb a.id b.id).0 p1.0 i; name = (text_decides a.name b.name).0 p1.1 i; node = (text_decides a.node b.node).0 p2.1 i; checks = (texts_decides a.checks b.checks).0 p3.1 i; behavior = (behavior_decides a.behavior b.behavior).0 p4.1 i; delay_ms = (Decides-eqb a.delay_ms b.delay_ms).0 p5.1 i; ttl_ms = (Decides-eqb a.ttl_ms b.ttl_ms).0 p6.1 i; create = (Decides-eqb a.create b.create).0 p7.1 i; modify = (Decides-eqb a.modify b.modify).0 p8.1 i }

    own : (a : SessionRow) → same_session a a ≡ true
    own a = (and_from _ _ (and_from _ _ (and_from _ _ (and_from _ _ (and_from _ _ (and_from _ _ (and_from _ _ (and_from _ _ ((Decides-eqb a.id a.id).1 refl) ((text_decides a.name a.name).1 refl)) ((text_decides a.node a.node).1 refl)) ((texts_decides a.checks a.checks).1 refl)) ((behavior_decides a.behavior a.behavior).1 refl)) ((Decides-eqb a.delay_ms a.delay_ms).1 refl)) ((Decides-eqb a.ttl_ms a.ttl_ms).1 refl)) ((Decides-eqb a.create a.create).1 refl)) ((Decides-eqb a.modify a.modify).1 refl))

pub query_decides : (a b : QueryRow) → Decides (same_query a b) (a ≡ b)
unfolding same_query
query_decides = decides_by same_query sound own
  where
    sound : (a b : QueryRow) → same_query a b ≡ true → a ≡ b
    sound a b h =
        let p8 = and_parts _ _ h in
        let p7 = and_parts _ _ p8.0 in
        let p6 = and_parts _ _ p7.0 in
        let p5 = and_parts _ _ p6.0 in
        let p4 = and_parts _ _ p5.0 in
        let p3 = and_parts _ _ p4.0 in
        let p2 = and_parts _ _ p3.0 in
        let p1 = and_parts _ _ p2.0 in
        λ i. record { id = (Decides-eqb a.id b.id).0 p1.0 i; name = (text_decides a.name b.name).0 p1.1 i; session = (option_decides a.session b.session).0 p2.1 i; service = (text_decides a.service b.service).0 p3.1 i; only_passing = (bool_decides a.only_passing b.only_passing).0 p4.1 i; tags = (texts_decides a.tags b.tags).0 p5.1 i; dns_ttl_ms = (Decides-eqb a.dns_ttl_ms b.dns_ttl_ms).0 p6.1 i; create = (Decides-eqb a.create b.create).0 p7.1 i; modify = (Decides-eqb a.modify b.modify).0 p8.1 i }

    own : (a : QueryRow) → same_query a a ≡ true
    own a = (and_from _ _ (and_from _ _ (and_from _ _ (and_from _ _ (and_from _ _ (and_from _ _ (and_from _ _ (and_from _ _ ((Decides-eqb a.id a.id).1 refl) ((text_decides a.name a.name).1 refl)) ((option_decides a.session a.session).1 refl)) ((text_decides a.service a.service).1 refl)) ((bool_decides a.only_passing a.only_passing).1 refl)) ((texts_decides a.tags a.tags).1 refl)) ((Decides-eqb a.dns_ttl_ms a.dns_ttl_ms).1 refl)) ((Decides-eqb a.create a.create).1 refl)) ((Decides-eqb a.modify a.modify).1 refl))

pub catalog_decides : (a b : Catalog) → Decides (same_catalog a b) (a ≡ b)
unfolding same_catalog
catalog_decides = decides_by same_catalog sound own
  where
    sound : (a b : Catalog) → same_catalog a b ≡ true → a ≡ b
    sound a b h =
        let p6 = and_parts _ _ h in
        let p5 = and_parts _ _ p6.0 in
        let p4 = and_parts _ _ p5.0 in
        let p3 = and_parts _ _ p4.0 in
        let p2 = and_parts _ _ p3.0 in
        let p1 = and_parts _ _ p2.0 in
        λ i. record { version = (Decides-eqb a.version b.version).0 p1.0 i; nodes = (pointwise_decides node_decides a.nodes b.nodes).0 p1.1 i; services = (pointwise_decides service_decides a.services b.services).0 p2.1 i; checks = (pointwise_decides check_decides a.checks b.checks).0 p3.1 i; kv = (pointwise_decides kv_decides a.kv b.kv).0 p4.1 i; sessions = (pointwise_decides session_decides a.sessions b.sessions).0 p5.1 i; queries = (pointwise_decides query_decides a.queries b.queries).0 p6.1 i }

    own : (a : Catalog) → same_catalog a a ≡ true
    own a = (and_from _ _ (and_from _ _ (and_from _ _ (and_from _ _ (and_from _ _ (and_from _ _ ((Decides-eqb a.version a.version).1 refl) ((pointwise_decides node_decides a.nodes a.nodes).1 refl)) ((pointwise_decides service_decides a.services a.services).1 refl)) ((pointwise_decides check_decides a.checks a.checks).1 refl)) ((pointwise_decides kv_decides a.kv a.kv).1 refl)) ((pointwise_decides session_decides a.sessions a.sessions).1 refl)) ((pointwise_decides query_decides a.queries a.queries).1 refl))
