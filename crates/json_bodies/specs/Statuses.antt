-- The status of a check.
use Rattle.std.specs.Prelude.{ℕ, if◌then◌else◌, List, Option, None, Some, option_and_then, Result, codes, bytes_eq}
use Rattle.serde_json.specs.Data.{Data}
use Rattle.serde_json.specs.Find.{as_str}
use Rattle.cat_model.specs.declared.row.Status.{Status}
use Rattle.cat_model.specs.declared.row.Status.TheVariants.{Passing, Warning, Critical}
use Rattle.json_bodies.specs.declared.field.Field.TheVariants as f
use Rattle.json_bodies.specs.declared.error.ReadError.{ReadError}
use Rattle.json_bodies.specs.Members.{data_at, of_option}

abbrev pub status_named : List ℕ → Option Status
status_named word =
    if bytes_eq word (codes "passing") then Some Passing
    else (if bytes_eq word (codes "warning") then Some Warning
    else (if bytes_eq word (codes "critical") then Some Critical else None))

abbrev pub as_status : Data → Option Status
as_status d = option_and_then status_named (as_str d)

-- critical where none is given
unfoldable pub status_at : Data → Result Status ReadError
status_at d = of_option Critical f.Status as_status (data_at f.Status d)
