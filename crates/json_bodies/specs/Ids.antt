-- Identifiers as texts.
use Rattle.std.specs.Prelude.{ℕ, if◌then◌else◌, List, Option, None, Some, option_map, option_and_then, Result}
use Rattle.std.specs.Int.{w128, from_be_bytes}
use Rattle.uuid.specs.Text.{parsed}
use Rattle.serde_json.specs.Data.{Data}
use Rattle.serde_json.specs.Find.{as_str}
use Rattle.json_bodies.specs.declared.field.Field.TheVariants as f
use Rattle.json_bodies.specs.declared.error.ReadError.{ReadError}
use Rattle.json_bodies.specs.Members.{data_at, of_option, is_empty}

-- the identifier of a text in any form of a UUID
abbrev pub id_parsed : List ℕ → Option ℕ
id_parsed text = option_map (from_be_bytes w128) (parsed text)

-- no identifier where the text is empty
abbrev pub session_named : List ℕ → Option (Option ℕ)
session_named text = if is_empty text then Some None else option_map Some (id_parsed text)

abbrev pub as_session : Data → Option (Option ℕ)
as_session d = option_and_then session_named (as_str d)

unfoldable pub session_id_at : Data → Result (Option ℕ) ReadError
session_id_at d = of_option None f.Session as_session (data_at f.Session d)
