-- The body of a prepared query, in the order of its members. Consul, HTTP API, "Prepared Queries": "Create Prepared Query".
use Rattle.std.specs.Prelude.{ℕ, if◌then◌else◌, List, Option, None, Some, option_and_then, Result, Ok}
use Rattle.serde_json.specs.Data.{Data, Members}
use Rattle.serde_json.specs.Find.{as_str, as_object}
use Rattle.json_bodies.specs.declared.field.Field.TheVariants as f
use Rattle.json_bodies.specs.declared.error.ReadError.{ReadError}
use Rattle.json_bodies.specs.declared.query.NewQuery.{NewQuery}
use Rattle.json_bodies.specs.declared.query.Wanted.{Wanted}
use Rattle.json_bodies.specs.Errors.{◌>>=◌, refuse}
use Rattle.json_bodies.specs.Members.{json_of, object_only, data_at, text_at, filled_text_at, flag_at, texts_at, of_option, is_empty}
use Rattle.json_bodies.specs.Ids.{session_id_at}
use Rattle.json_bodies.specs.Durations.{duration_of}

-- the instances that it asks for
unfoldable pub wanted_at : Data → Result Wanted ReadError
wanted_at d = do
  service ← filled_text_at f.Service d
  only_passing ← flag_at f.OnlyPassing d
  tags ← texts_at f.Tags d
  Ok (record { service = service; only_passing = only_passing; tags = tags })

abbrev pub wanted_if : Data → Option Members → Result Wanted ReadError
wanted_if d None = refuse f.Service
wanted_if d (Some ms) = wanted_at d

abbrev pub wanted_of : Option Data → Result Wanted ReadError
wanted_of None = refuse f.Service
wanted_of (Some d) = wanted_if d (as_object d)

unfoldable pub wanted_in : Data → Result Wanted ReadError
wanted_in d = wanted_of (data_at f.Service d)

-- the TTL of DNS answers, 0 where it is empty or absent
abbrev pub dns_ttl_named : List ℕ → Option ℕ
dns_ttl_named text = if is_empty text then Some 0 else duration_of text

abbrev pub as_dns_ttl : Data → Option ℕ
as_dns_ttl d = option_and_then dns_ttl_named (as_str d)

unfoldable pub dns_ttl_at : Data → Result ℕ ReadError
dns_ttl_at d = of_option 0 f.Ttl as_dns_ttl (data_at f.Ttl d)

abbrev pub dns_if : Data → Option Members → Result ℕ ReadError
dns_if d None = refuse f.Dns
dns_if d (Some ms) = dns_ttl_at d

abbrev pub dns_of : Option Data → Result ℕ ReadError
dns_of None = Ok 0
dns_of (Some d) = dns_if d (as_object d)

unfoldable pub dns_in : Data → Result ℕ ReadError
dns_in d = dns_of (data_at f.Dns d)

unfoldable pub query_at : Data → Result NewQuery ReadError
query_at d = do
  top ← object_only d
  name ← text_at f.Name d
  session ← session_id_at d
  wanted ← wanted_in d
  ttl ← dns_in d
  Ok (record { name = name; session = session; service = wanted.service; only_passing = wanted.only_passing; tags = wanted.tags; dns_ttl_ms = ttl })

unfoldable pub query_of : List ℕ → Result NewQuery ReadError
query_of body = json_of body >>= query_at
