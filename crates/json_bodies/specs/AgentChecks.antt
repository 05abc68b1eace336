-- The bodies on an agent's checks, each in the order of its members. Consul, HTTP API, "Agent": "Checks".
use Rattle.std.specs.Prelude.{ℕ, ◌==◌, ◌&&◌, if◌then◌else◌, List, Option, None, Some, option_and_then, Result, Ok, ⊤, bytes_eq}
use Rattle.serde_json.specs.Data.{Data}
use Rattle.serde_json.specs.Find.{as_str}
use Rattle.cat_model.specs.Syncs.{serf_id}
use Rattle.cat_model.specs.declared.row.Status.{Status}
use Rattle.cat_model.specs.declared.request.TtlDef.{TtlDef}
use Rattle.json_bodies.specs.declared.field.Field.TheVariants as f
use Rattle.json_bodies.specs.declared.error.ReadError.{ReadError}
use Rattle.json_bodies.specs.declared.agent_check.CheckUpdate.{CheckUpdate}
use Rattle.json_bodies.specs.Errors.{◌>>=◌, refuse_if, or_refuse}
use Rattle.json_bodies.specs.Members.{json_of, object_only, data_at, text_at, is_empty, text_or}
use Rattle.json_bodies.specs.Durations.{duration_of}
use Rattle.json_bodies.specs.Statuses.{status_at, as_status}

-- a TTL is there, and above 0
abbrev pub above_zero : ℕ → Option ℕ
above_zero ms = if ms == 0 then None else Some ms

abbrev pub as_check_ttl : Data → Option ℕ
as_check_ttl d = option_and_then above_zero (option_and_then duration_of (as_str d))

unfoldable pub check_ttl_at : Data → Result ℕ ReadError
check_ttl_at d = or_refuse f.Ttl (option_and_then as_check_ttl (data_at f.Ttl d))

-- no check has the ID of the agent's own
abbrev pub not_own : List ℕ → Result ⊤ ReadError
not_own id = refuse_if (bytes_eq id serf_id) f.CheckId

-- Of its ID and its name each is the other's default.
unfoldable pub agent_check_at : Data → Result TtlDef ReadError
agent_check_at d = do
  top ← object_only d
  id ← text_at f.Id d
  name ← text_at f.Name d
  named ← refuse_if (is_empty id && is_empty name) f.Name
  other ← not_own (text_or id name)
  service ← text_at f.ServiceId d
  notes ← text_at f.Notes d
  status ← status_at d
  ttl ← check_ttl_at d
  Ok (record { id = text_or id name; name = text_or name id; notes = notes; service = service; status = status; ttl_ms = ttl })

unfoldable pub agent_check_of : List ℕ → Result TtlDef ReadError
agent_check_of body = json_of body >>= agent_check_at

-- ---- a check's update, which has a status

unfoldable pub given_status_at : Data → Result Status ReadError
given_status_at d = or_refuse f.Status (option_and_then as_status (data_at f.Status d))

unfoldable pub update_at : Data → Result CheckUpdate ReadError
update_at d = do
  top ← object_only d
  status ← given_status_at d
  output ← text_at f.Output d
  Ok (record { status = status; output = output })

unfoldable pub update_of : List ℕ → Result CheckUpdate ReadError
update_of body = json_of body >>= update_at
