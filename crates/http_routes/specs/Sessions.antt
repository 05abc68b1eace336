-- Sessions. Consul, HTTP API: "Sessions". A session that is created gets its identifier later, and so does its node where
-- none is named.
use Rattle.std.specs.Prelude.{ℕ, List, Result, Ok}
use Rattle.cat_model.specs.declared.command.Command.{Command}
use Rattle.cat_model.specs.declared.command.Command.TheVariants.{SessionCreate, SessionDestroy}
use Rattle.cat_model.specs.declared.query.Query.TheVariants as q
use Rattle.cat_model.specs.declared.request.Request.{Request}
use Rattle.cat_model.specs.declared.request.Request.TheVariants.{Write, Renew}
use Rattle.json_bodies.specs.Ids.{id_parsed}
use Rattle.json_bodies.specs.Sessions.{session_of}
use Rattle.json_bodies.specs.declared.session.NewSession.{NewSession}
use Rattle.http_routes.specs.declared.error.Parameter.TheVariants as p
use Rattle.http_routes.specs.declared.error.RouteError.{RouteError}
use Rattle.http_routes.specs.declared.params.Pair.{Pair}
use Rattle.http_routes.specs.Errors.{◌>>=◌, or_refuse, in_body}
use Rattle.http_routes.specs.Targets.{text_of}
use Rattle.http_routes.specs.Checks.{plain, reading, read}

abbrev pub creation : NewSession → Command
creation s = SessionCreate 0 s.name s.node s.checks s.behavior s.delay_ms s.ttl_ms

unfoldable pub session_create : List Pair → List ℕ → Result Request RouteError
session_create pairs body = do
  done ← plain pairs body
  session ← in_body (session_of body)
  Ok (Write (creation session))

-- the identifier of a path
unfoldable pub id_of : List ℕ → Result ℕ RouteError
id_of part = text_of p.Id part >>= λ text. or_refuse p.Id (id_parsed text)

unfoldable pub session_destroy : List ℕ → List Pair → List ℕ → Result Request RouteError
session_destroy part pairs body = do
  id ← id_of part
  done ← plain pairs body
  Ok (Write (SessionDestroy id))

unfoldable pub session_renew : List ℕ → List Pair → List ℕ → Result Request RouteError
session_renew part pairs body = do
  id ← id_of part
  done ← plain pairs body
  Ok (Renew id)

unfoldable pub session_info : List ℕ → List Pair → List ℕ → Result Request RouteError
session_info part pairs body = do
  id ← id_of part
  r ← reading pairs body
  Ok (read (q.SessionInfo id) r)

unfoldable pub session_node : List ℕ → List Pair → List ℕ → Result Request RouteError
session_node part pairs body = do
  name ← text_of p.Node part
  r ← reading pairs body
  Ok (read (q.SessionsOf name) r)
