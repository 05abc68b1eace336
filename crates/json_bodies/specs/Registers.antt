-- The body of a registration, in the order of its members. Consul, HTTP API, "Catalog": "Register Entity".
use Rattle.std.specs.Prelude.{ℕ, ◌&&◌, not, nat_le, Bool, if◌then◌else◌, List, [], ◌∷◌, ◌++◌, Option, None, Some, Result, Ok, ⊤, codes, bytes_eq}
use Rattle.serde_json.specs.Data.{Data, Members}
use Rattle.serde_json.specs.Find.{as_object}
use Rattle.cat_model.specs.declared.command.NewService.{NewService}
use Rattle.cat_model.specs.declared.command.NewCheck.{NewCheck}
use Rattle.cat_model.specs.declared.command.Command.{Command}
use Rattle.cat_model.specs.declared.command.Command.TheVariants.{Register}
use Rattle.json_bodies.specs.declared.field.Field.TheVariants as f
use Rattle.json_bodies.specs.declared.error.ReadError.{ReadError}
use Rattle.json_bodies.specs.Errors.{◌>>=◌, refuse, refuse_if}
use Rattle.json_bodies.specs.Members.{json_of, object_only, data_at, text_at, filled_text_at, number_at, flag_at, texts_at, is_empty, text_or, list_of}
use Rattle.json_bodies.specs.Statuses.{status_at}

-- there is one datacenter
abbrev pub is_other_center : List ℕ → Bool
is_other_center name = not (is_empty name) && not (bytes_eq name (codes "dc1"))

unfoldable pub center_at : Data → Result ⊤ ReadError
center_at d = do
  center ← text_at f.Datacenter d
  refuse_if (is_other_center center) f.Dc

-- ---- checks

-- Of its ID and its name each is the other's default.
unfoldable pub check_at : Data → Result NewCheck ReadError
check_at d = do
  id ← text_at f.CheckId d
  name ← text_at f.Name d
  named ← refuse_if (is_empty id && is_empty name) f.CheckId
  status ← status_at d
  notes ← text_at f.Notes d
  output ← text_at f.Output d
  service ← text_at f.ServiceId d
  Ok (record { id = text_or id name; name = text_or name id; status = status; notes = notes; output = output; service = service })

-- an item of Checks
abbrev pub check_if : Data → Option Members → Result NewCheck ReadError
check_if d None = refuse f.Checks
check_if d (Some ms) = check_at d

abbrev pub a_check : Data → Result NewCheck ReadError
a_check d = check_if d (as_object d)

unfoldable pub checks_at : Data → Result (List NewCheck) ReadError
checks_at d = list_of f.Checks a_check (data_at f.Checks d)

-- the check of the member Check, as a list
abbrev pub one_if : Data → Option Members → Result (List NewCheck) ReadError
one_if d None = refuse f.Check
one_if d (Some ms) = check_at d >>= λ check. Ok (check ∷ [])

abbrev pub one_of : Option Data → Result (List NewCheck) ReadError
one_of None = Ok []
one_of (Some d) = one_if d (as_object d)

unfoldable pub one_at : Data → Result (List NewCheck) ReadError
one_at d = one_of (data_at f.Check d)

-- ---- the service

abbrev pub port_of : ℕ → Result ℕ ReadError
port_of number = if nat_le number 65535 then Ok number else refuse f.Port

unfoldable pub port_at : Data → Result ℕ ReadError
port_at d = number_at f.Port d >>= port_of

unfoldable pub service_at : Data → Result NewService ReadError
service_at d = do
  id ← text_at f.Id d
  name ← filled_text_at f.Service d
  tags ← texts_at f.Tags d
  address ← text_at f.Address d
  port ← port_at d
  tag_override ← flag_at f.EnableTagOverride d
  Ok (record { id = text_or id name; name = name; tags = tags; address = address; port = port; tag_override = tag_override })

abbrev pub service_if : Data → Option Members → Result (Option NewService) ReadError
service_if d None = refuse f.Service
service_if d (Some ms) = service_at d >>= λ service. Ok (Some service)

abbrev pub service_of : Option Data → Result (Option NewService) ReadError
service_of None = Ok None
service_of (Some d) = service_if d (as_object d)

unfoldable pub service_in : Data → Result (Option NewService) ReadError
service_in d = service_of (data_at f.Service d)

-- ---- the whole

unfoldable pub register_at : Data → Result Command ReadError
register_at d = do
  top ← object_only d
  center ← center_at d
  node ← filled_text_at f.Node d
  address ← filled_text_at f.Address d
  service ← service_in d
  one ← one_at d
  checks ← checks_at d
  Ok (Register node address service (one ++ checks))

unfoldable pub register_of : List ℕ → Result Command ReadError
register_of body = json_of body >>= register_at
