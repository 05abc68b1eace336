-- The catalog, and the health of what it has. Consul, HTTP API: "Catalog", "Health". `upgrade` is this project's own: it
-- sets the version of the catalog's machine to 2, and its body is not read.
use Rattle.std.specs.Prelude.{ℕ, if◌then◌else◌, List, Option, None, Some, option_map, Result, Ok, codes, bytes_eq}
use Rattle.cat_model.specs.declared.command.Command.TheVariants.{Upgrade}
use Rattle.cat_model.specs.declared.query.Query.{Query}
use Rattle.cat_model.specs.declared.query.Query.TheVariants as q
use Rattle.cat_model.specs.declared.request.Request.{Request}
use Rattle.cat_model.specs.declared.request.Request.TheVariants.{Write}
use Rattle.cat_model.specs.declared.row.Status.{Status}
use Rattle.json_bodies.specs.Registers.{register_of}
use Rattle.json_bodies.specs.Deregisters.{deregister_of}
use Rattle.json_bodies.specs.Statuses.{status_named}
use Rattle.http_routes.specs.declared.error.Parameter.TheVariants as p
use Rattle.http_routes.specs.declared.error.RouteError.{RouteError}
use Rattle.http_routes.specs.declared.params.Pair.{Pair}
use Rattle.http_routes.specs.Errors.{◌>>=◌, or_refuse, in_body}
use Rattle.http_routes.specs.Targets.{text_of}
use Rattle.http_routes.specs.Params.{is_on, all_of}
use Rattle.http_routes.specs.Checks.{plain, reading, read}

-- ---- writes

unfoldable pub register : List Pair → List ℕ → Result Request RouteError
register pairs body = do
  done ← plain pairs body
  command ← in_body (register_of body)
  Ok (Write command)

unfoldable pub deregister : List Pair → List ℕ → Result Request RouteError
deregister pairs body = do
  done ← plain pairs body
  command ← in_body (deregister_of body)
  Ok (Write command)

unfoldable pub upgrade : List Pair → List ℕ → Result Request RouteError
upgrade pairs body = plain pairs body >>= λ done. Ok (Write Upgrade)

-- ---- reads of the catalog

-- a read of a query without parameters
unfoldable pub whole : Query → List Pair → List ℕ → Result Request RouteError
whole query pairs body = reading pairs body >>= λ r. Ok (read query r)

unfoldable pub service : List ℕ → List Pair → List ℕ → Result Request RouteError
service part pairs body = do
  name ← text_of p.Name part
  r ← reading pairs body
  Ok (read (q.Service name (all_of (codes "tag") pairs)) r)

unfoldable pub node : List ℕ → List Pair → List ℕ → Result Request RouteError
node part pairs body = do
  name ← text_of p.Node part
  r ← reading pairs body
  Ok (read (q.NodeServices name) r)

-- ---- reads of health

unfoldable pub health_node : List ℕ → List Pair → List ℕ → Result Request RouteError
health_node part pairs body = do
  name ← text_of p.Node part
  r ← reading pairs body
  Ok (read (q.HealthNode name) r)

unfoldable pub health_checks : List ℕ → List Pair → List ℕ → Result Request RouteError
health_checks part pairs body = do
  name ← text_of p.Name part
  r ← reading pairs body
  Ok (read (q.HealthChecks name) r)

unfoldable pub health_service : List ℕ → List Pair → List ℕ → Result Request RouteError
health_service part pairs body = do
  name ← text_of p.Name part
  r ← reading pairs body
  Ok (read (q.HealthService name (all_of (codes "tag") pairs) (is_on (codes "passing") pairs)) r)

-- a status, or `any` for all
abbrev pub state_named : List ℕ → Option (Option Status)
state_named word = if bytes_eq word (codes "any") then Some None else option_map Some (status_named word)

unfoldable pub state_of : List ℕ → Result (Option Status) RouteError
state_of part = text_of p.State part >>= λ word. or_refuse p.State (state_named word)

unfoldable pub health_state : List ℕ → List Pair → List ℕ → Result Request RouteError
health_state part pairs body = do
  state ← state_of part
  r ← reading pairs body
  Ok (read (q.HealthState state) r)
