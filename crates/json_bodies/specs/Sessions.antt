-- The body of a session's creation, in the order of its members. Consul, HTTP API, "Sessions": "Create Session".
use Rattle.std.specs.Prelude.{ℕ, ◌*◌, ◌/◌, ◌&&◌, not, nat_le, nat_lt, Bool, true, false, if◌then◌else◌, List, [], ◌∷◌, ◌++◌, Option, None, Some, option_map, option_and_then, Result, Ok, ⊤, codes, bytes_eq}
use Rattle.serde_json.specs.Data.{Data, object, no_members, Items, no_items, item}
use Rattle.serde_json.specs.Find.{as_str, as_array}
use Rattle.cat_model.specs.Syncs.{serf_id}
use Rattle.cat_model.specs.declared.row.Behavior.{Behavior}
use Rattle.cat_model.specs.declared.row.Behavior.TheVariants.{Release, Delete}
use Rattle.json_bodies.specs.declared.field.Field.{Field}
use Rattle.json_bodies.specs.declared.field.Field.TheVariants as f
use Rattle.json_bodies.specs.declared.error.ReadError.{ReadError}
use Rattle.json_bodies.specs.declared.session.NewSession.{NewSession}
use Rattle.json_bodies.specs.Errors.{◌>>=◌, refuse_if}
use Rattle.json_bodies.specs.Members.{json_of, object_only, data_at, text_at, of_option, as_whole, is_empty, each_of, a_text}
use Rattle.json_bodies.specs.Durations.{duration_of}

abbrev pub within : ℕ → ℕ → ℕ → Option ℕ
within least most ms = if nat_le least ms && nat_le ms most then Some ms else None

-- ---- the lock delay, of a minute at most and 15 seconds where none is given

-- A whole number is of seconds where it is below 1,000, else of nanoseconds.
abbrev pub delay_of_number : ℕ → ℕ
delay_of_number n = if nat_lt n 1000 then n * 1000 else n / 1000000

abbrev pub delay_given : Option (List ℕ) → Option ℕ → Option ℕ
delay_given None number = option_map delay_of_number number
delay_given (Some text) number = duration_of text

abbrev pub as_delay : Data → Option ℕ
as_delay d = option_and_then (within 0 60000) (delay_given (as_str d) (as_whole d))

unfoldable pub delay_at : Data → Result ℕ ReadError
delay_at d = of_option 15000 f.LockDelay as_delay (data_at f.LockDelay d)

-- ---- what becomes of its keys, and its TTL, of 10 seconds to a day or none

abbrev pub behavior_named : List ℕ → Option Behavior
behavior_named word =
    if bytes_eq word (codes "") then Some Release
    else (if bytes_eq word (codes "release") then Some Release
    else (if bytes_eq word (codes "delete") then Some Delete else None))

abbrev pub as_behavior : Data → Option Behavior
as_behavior d = option_and_then behavior_named (as_str d)

unfoldable pub behavior_at : Data → Result Behavior ReadError
behavior_at d = of_option Release f.Behavior as_behavior (data_at f.Behavior d)

abbrev pub ttl_named : List ℕ → Option ℕ
ttl_named text = if is_empty text then Some 0 else option_and_then (within 10000 86400000) (duration_of text)

abbrev pub as_ttl : Data → Option ℕ
as_ttl d = option_and_then ttl_named (as_str d)

unfoldable pub ttl_at : Data → Result ℕ ReadError
ttl_at d = of_option 0 f.Ttl as_ttl (data_at f.Ttl d)

-- ---- its checks: the node's own where none are given

abbrev pub given_texts : Field → Option Data → Result (Option (List (List ℕ))) ReadError
given_texts field None = Ok None
given_texts field (Some d) = each_of field (a_text field) (as_array d) >>= λ texts. Ok (Some texts)

unfoldable pub given_texts_at : Field → Data → Result (Option (List (List ℕ))) ReadError
given_texts_at field d = given_texts field (data_at field d)

abbrev pub joined : Option (List (List ℕ)) → Option (List (List ℕ)) → List (List ℕ)
joined None None = serf_id ∷ []
joined None (Some more) = more
joined (Some checks) None = checks
joined (Some checks) (Some more) = checks ++ more

abbrev pub is_no_item : Items → Bool
is_no_item no_items = true
is_no_item (item d ds) = false

abbrev pub no_list : Option Items → Bool
no_list None = false
no_list (Some ds) = is_no_item ds

-- there are no checks of services
abbrev pub none_of : Option Data → Result ⊤ ReadError
none_of None = Ok tt
none_of (Some d) = refuse_if (not (no_list (as_array d))) f.ServiceChecks

unfoldable pub no_service_checks : Data → Result ⊤ ReadError
no_service_checks d = none_of (data_at f.ServiceChecks d)

unfoldable pub session_checks_at : Data → Result (List (List ℕ)) ReadError
session_checks_at d = do
  checks ← given_texts_at f.Checks d
  more ← given_texts_at f.NodeChecks d
  none ← no_service_checks d
  Ok (joined checks more)

-- ---- the whole

unfoldable pub session_at : Data → Result NewSession ReadError
session_at d = do
  top ← object_only d
  name ← text_at f.Name d
  node ← text_at f.Node d
  delay ← delay_at d
  behavior ← behavior_at d
  ttl ← ttl_at d
  checks ← session_checks_at d
  Ok (record { name = name; node = node; checks = checks; behavior = behavior; delay_ms = delay; ttl_ms = ttl })

-- an empty body is an object without members
unfoldable pub json_or_nothing : List ℕ → Result Data ReadError
json_or_nothing body = if is_empty body then Ok (object no_members) else json_of body

unfoldable pub session_of : List ℕ → Result NewSession ReadError
session_of body = json_or_nothing body >>= session_at
