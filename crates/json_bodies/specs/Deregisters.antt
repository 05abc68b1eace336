-- The body of a deregistration. Consul, HTTP API, "Catalog": "Deregister Entity".
use Rattle.std.specs.Prelude.{ℕ, List, Result, Ok}
use Rattle.serde_json.specs.Data.{Data}
use Rattle.cat_model.specs.declared.command.Command.{Command}
use Rattle.cat_model.specs.declared.command.Command.TheVariants.{Deregister}
use Rattle.json_bodies.specs.declared.field.Field.TheVariants as f
use Rattle.json_bodies.specs.declared.error.ReadError.{ReadError}
use Rattle.json_bodies.specs.Errors.{◌>>=◌}
use Rattle.json_bodies.specs.Members.{json_of, object_only, text_at, filled_text_at}
use Rattle.json_bodies.specs.Registers.{center_at}

unfoldable pub deregister_at : Data → Result Command ReadError
deregister_at d = do
  top ← object_only d
  center ← center_at d
  node ← filled_text_at f.Node d
  service ← text_at f.ServiceId d
  check ← text_at f.CheckId d
  Ok (Deregister node service check)

unfoldable pub deregister_of : List ℕ → Result Command ReadError
deregister_of body = json_of body >>= deregister_at
