-- The body of a service for an agent, in the order of its members. Consul, HTTP API, "Agent": "Register Service".
use Rattle.std.specs.Prelude.{ℕ, ◌+◌, nat_lt, Bool, if◌then◌else◌, List, [], ◌∷◌, ◌++◌, length, Option, None, Some, Result, Ok, codes}
use Rattle.std.specs.Fmt.{decimal}
use Rattle.serde_json.specs.Data.{Data, Members}
use Rattle.serde_json.specs.Find.{as_object}
use Rattle.cat_model.specs.declared.request.ServiceDef.{ServiceDef}
use Rattle.cat_model.specs.declared.request.TtlDef.{TtlDef}
use Rattle.cat_model.specs.declared.request.AgentOp.{AgentOp}
use Rattle.cat_model.specs.declared.request.AgentOp.TheVariants.{AddService}
use Rattle.json_bodies.specs.declared.field.Field.TheVariants as f
use Rattle.json_bodies.specs.declared.error.ReadError.{ReadError}
use Rattle.json_bodies.specs.Errors.{◌>>=◌, refuse}
use Rattle.json_bodies.specs.Members.{json_of, object_only, data_at, text_at, filled_text_at, flag_at, texts_at, text_or, list_of}
use Rattle.json_bodies.specs.Statuses.{status_at}
use Rattle.json_bodies.specs.Registers.{port_at}
use Rattle.json_bodies.specs.AgentChecks.{check_ttl_at, not_own}

unfoldable pub service_def_at : Data → Result ServiceDef ReadError
service_def_at d = do
  id ← text_at f.Id d
  name ← filled_text_at f.Name d
  tags ← texts_at f.Tags d
  address ← text_at f.Address d
  port ← port_at d
  tag_override ← flag_at f.EnableTagOverride d
  Ok (record { id = text_or id name; name = name; tags = tags; address = address; port = port; tag_override = tag_override })

-- ---- its checks, as they stand in the body

unfoldable pub given_check_at : Data → Result TtlDef ReadError
given_check_at d = do
  id ← text_at f.CheckId d
  name ← text_at f.Name d
  other ← not_own id
  notes ← text_at f.Notes d
  status ← status_at d
  ttl ← check_ttl_at d
  Ok (record { id = id; name = name; notes = notes; service = []; status = status; ttl_ms = ttl })

abbrev pub given_if : Data → Option Members → Result TtlDef ReadError
given_if d None = refuse f.Checks
given_if d (Some ms) = given_check_at d

abbrev pub a_given : Data → Result TtlDef ReadError
a_given d = given_if d (as_object d)

unfoldable pub given_checks_at : Data → Result (List TtlDef) ReadError
given_checks_at d = list_of f.Checks a_given (data_at f.Checks d)

abbrev pub first_if : Data → Option Members → Result (List TtlDef) ReadError
first_if d None = refuse f.Check
first_if d (Some ms) = given_check_at d >>= λ check. Ok (check ∷ [])

abbrev pub first_of : Option Data → Result (List TtlDef) ReadError
first_of None = Ok []
first_of (Some d) = first_if d (as_object d)

unfoldable pub first_given_at : Data → Result (List TtlDef) ReadError
first_given_at d = first_of (data_at f.Check d)

-- ---- their IDs and names where they have none: of several each has its place in its ID

abbrev pub place : Bool → ℕ → List ℕ
place several n = if several then codes ":" ++ decimal n else []

abbrev pub default_id : List ℕ → Bool → ℕ → List ℕ
default_id service several n = codes "service:" ++ service ++ place several n

abbrev pub default_name : List ℕ → List ℕ
default_name name = codes "Service '" ++ name ++ codes "' check"

abbrev pub named : ServiceDef → Bool → ℕ → TtlDef → TtlDef
named s several n t = record {
  id = text_or t.id (default_id s.id several n);
  name = text_or t.name (default_name s.name);
  notes = t.notes;
  service = s.id;
  status = t.status;
  ttl_ms = t.ttl_ms;
}

-- from the n-th check on
abbrev pub named_from : ServiceDef → Bool → ℕ → List TtlDef → List TtlDef
named_from s several n [] = []
named_from s several n (t ∷ ts) = named s several n t ∷ named_from s several (n + 1) ts

abbrev pub all_named : ServiceDef → List TtlDef → List TtlDef
all_named s ts = named_from s (nat_lt 1 (length ts)) 1 ts

-- ---- the whole

unfoldable pub add_service_at : Data → Result AgentOp ReadError
add_service_at d = do
  top ← object_only d
  service ← service_def_at d
  first ← first_given_at d
  more ← given_checks_at d
  Ok (AddService service (all_named service (first ++ more)))

unfoldable pub add_service_of : List ℕ → Result AgentOp ReadError
add_service_of body = json_of body >>= add_service_at
