-- The bodies of an agent's answers: objects by ID, as compact JSON with the members in byte order (Consul, HTTP API,
-- "Agent": List Services and List Checks).
use Rattle.std.specs.Prelude.{ℕ, List, [], ◌∷◌, map, codes}
use Rattle.serde_json.specs.Data.{Data, boolean, number, string, array, object, unsigned, Members, member, no_members, put}
use Rattle.serde_json.specs.View.{items_of}
use Rattle.serde_json.specs.Written.{compact_text}
use Rattle.cat_model.specs.declared.row.ServiceRow.{ServiceRow}
use Rattle.cat_model.specs.declared.row.Status.{Status}
use Rattle.cat_model.specs.declared.row.Status.TheVariants.{Passing, Warning, Critical}
use Rattle.cat_model.specs.declared.query.CheckView.{CheckView}

abbrev pub status_text : Status → List ℕ
status_text Passing = codes "passing"
status_text Warning = codes "warning"
status_text Critical = codes "critical"

-- a service of the agent
abbrev pub service_data : ServiceRow → Data
service_data row = object
    (member (codes "Address") (string row.address)
    (member (codes "EnableTagOverride") (boolean row.tag_override)
    (member (codes "ID") (string row.id)
    (member (codes "Port") (number (unsigned row.port))
    (member (codes "Service") (string row.name)
    (member (codes "Tags") (array (items_of (map string row.tags))) no_members))))))

-- a check of the agent
abbrev pub check_data : CheckView → Data
check_data x = object
    (member (codes "CheckID") (string x.row.id)
    (member (codes "Name") (string x.row.name)
    (member (codes "Node") (string x.row.node)
    (member (codes "Notes") (string x.row.notes)
    (member (codes "Output") (string x.row.output)
    (member (codes "ServiceID") (string x.row.service)
    (member (codes "ServiceName") (string x.service_name)
    (member (codes "Status") (string (status_text x.row.status)) no_members))))))))

-- an object of what is made of each item, by names
abbrev pub by_name : {A : Type 0} → (A → List ℕ) → (A → Data) → List A → Members
by_name name f [] = no_members
by_name name f (x ∷ xs) = put (name x) (f x) (by_name name f xs)

unfoldable pub services_body : List ServiceRow → List ℕ
services_body rows = compact_text (object (by_name (λ s. s.id) service_data rows))

unfoldable pub checks_body : List CheckView → List ℕ
checks_body rows = compact_text (object (by_name (λ x. x.row.id) check_data rows))
