-- The JSON of sessions, of prepared queries, and of what is shown by names, as Consul's HTTP API version 1 shows it, with
-- the members of an object in byte order. Nodes, services, instances and checks stand in `row_objects`.
use Rattle.std.specs.Prelude.{ℕ, ◌*◌, ◌/◌, ◌%◌, ◌==◌, if◌then◌else◌, List, [], ◌∷◌, ◌++◌, min, Option, None, Some, codes, decimal}
use Rattle.serde_json.specs.Data.{Data, null, boolean, number, string, object, unsigned, Members, member, no_members, put}
use Rattle.cat_model.specs.declared.row.NodeRow.{NodeRow}
use Rattle.cat_model.specs.declared.row.ServiceRow.{ServiceRow}
use Rattle.cat_model.specs.declared.row.SessionRow.{SessionRow}
use Rattle.cat_model.specs.declared.row.QueryRow.{QueryRow}
use Rattle.cat_model.specs.declared.row.Behavior.{Behavior}
use Rattle.cat_model.specs.declared.row.Behavior.TheVariants as behavior
use Rattle.cat_model.specs.declared.query.NameTags.{NameTags}
use Rattle.row_objects.specs.Objects.{names_data, node_data, service_data}
use Rattle.reply_body.specs.Bodies.{id_text}

-- a time in milliseconds: none is the empty text
abbrev pub duration_text : ℕ → List ℕ
duration_text ms =
    if ms == 0 then [] else if ms % 1000 == 0 then decimal (ms / 1000) ++ codes "s" else decimal ms ++ codes "ms"

-- a lock delay in nanoseconds, as far as 64 bits reach; commands in bounds have at most a minute
abbrev pub nanoseconds : ℕ → ℕ
nanoseconds ms = min (ms * 1000000) 18446744073709551615

abbrev pub behavior_text : Behavior → List ℕ
behavior_text behavior.Release = codes "release"
behavior_text behavior.Delete = codes "delete"

unfoldable pub session_data : SessionRow → Data
session_data row = object
    (member (codes "Behavior") (string (behavior_text row.behavior))
    (member (codes "Checks") (names_data row.checks)
    (member (codes "CreateIndex") (number (unsigned row.create))
    (member (codes "ID") (string (id_text row.id))
    (member (codes "LockDelay") (number (unsigned (nanoseconds row.delay_ms)))
    (member (codes "ModifyIndex") (number (unsigned row.modify))
    (member (codes "Name") (string row.name)
    (member (codes "Node") (string row.node)
    (member (codes "TTL") (string (duration_text row.ttl_ms)) no_members)))))))))

-- an identifier, or the empty text where there is none
abbrev pub id_or_none : Option ℕ → List ℕ
id_or_none None = []
id_or_none (Some id) = id_text id

unfoldable pub query_data : QueryRow → Data
query_data row = object
    (member (codes "CreateIndex") (number (unsigned row.create))
    (member (codes "DNS") (object (member (codes "TTL") (string (duration_text row.dns_ttl_ms)) no_members))
    (member (codes "ID") (string (id_text row.id))
    (member (codes "ModifyIndex") (number (unsigned row.modify))
    (member (codes "Name") (string row.name)
    (member (codes "Service") (object
    (member (codes "OnlyPassing") (boolean row.only_passing)
    (member (codes "Service") (string row.service)
    (member (codes "Tags") (names_data row.tags) no_members))))
    (member (codes "Session") (string (id_or_none row.session)) no_members)))))))

-- the members put one after another, each in its place in byte order
abbrev pub put_each : {A : Type 0} → (A → List ℕ) → (A → Data) → List A → Members → Members
put_each name f [] found = found
put_each name f (x ∷ xs) found = put_each name f xs (put (name x) (f x) found)

-- an object of what is made of each item, by names
unfoldable pub by_name : {A : Type 0} → (A → List ℕ) → (A → Data) → List A → Data
by_name name f xs = object (put_each name f xs no_members)

-- the names of services with their tags
unfoldable pub services_data : List NameTags → Data
services_data rows = by_name (λ x. x.name) (λ x. names_data x.tags) rows

-- a node with its services by their IDs, or null where it is absent
unfoldable pub node_view_data : Option NodeRow → List ServiceRow → Data
node_view_data None services = null
node_view_data (Some row) services = object
    (member (codes "Node") (node_data row)
    (member (codes "Services") (by_name (λ s. s.id) service_data services) no_members))
