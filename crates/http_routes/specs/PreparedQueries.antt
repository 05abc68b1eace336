-- Prepared queries. Consul, HTTP API: "Prepared Queries". One that is created gets its identifier later. An execution
-- names the query by its identifier or its name, every other request by its identifier.
use Rattle.std.specs.Prelude.{ℕ, Bool, true, false, List, Result, Ok}
use Rattle.cat_model.specs.declared.command.Command.{Command}
use Rattle.cat_model.specs.declared.command.Command.TheVariants.{QuerySet, QueryDelete}
use Rattle.cat_model.specs.declared.query.Query.TheVariants as q
use Rattle.cat_model.specs.declared.request.Request.{Request}
use Rattle.cat_model.specs.declared.request.Request.TheVariants.{Write, Execute}
use Rattle.json_bodies.specs.Ids.{id_parsed}
use Rattle.json_bodies.specs.NewQueries.{query_of}
use Rattle.json_bodies.specs.declared.query.NewQuery.{NewQuery}
use Rattle.http_routes.specs.declared.error.Parameter.TheVariants as p
use Rattle.http_routes.specs.declared.error.RouteError.{RouteError}
use Rattle.http_routes.specs.declared.params.Pair.{Pair}
use Rattle.http_routes.specs.Errors.{◌>>=◌, or_refuse, in_body}
use Rattle.http_routes.specs.Targets.{text_of}
use Rattle.http_routes.specs.Params.{number_at}
use Rattle.http_routes.specs.Checks.{most, short, center_at, mode_at, unfiltered_at, plain, reading, read}

abbrev pub setting : ℕ → Bool → NewQuery → Command
setting id create query = QuerySet id create query.name query.session query.service query.only_passing query.tags query.dns_ttl_ms

unfoldable pub query_create : List Pair → List ℕ → Result Request RouteError
query_create pairs body = do
  done ← plain pairs body
  query ← in_body (query_of body)
  Ok (Write (setting 0 true query))

-- the identifier of a path that may also have a name there
unfoldable pub id_only : List ℕ → Result ℕ RouteError
id_only part = text_of p.IdOrName part >>= λ text. or_refuse p.Id (id_parsed text)

unfoldable pub query_info : List ℕ → List Pair → List ℕ → Result Request RouteError
query_info part pairs body = do
  id ← id_only part
  r ← reading pairs body
  Ok (read (q.QueryInfo id) r)

unfoldable pub query_update : List ℕ → List Pair → List ℕ → Result Request RouteError
query_update part pairs body = do
  id ← id_only part
  done ← plain pairs body
  query ← in_body (query_of body)
  Ok (Write (setting id false query))

unfoldable pub query_delete : List ℕ → List Pair → List ℕ → Result Request RouteError
query_delete part pairs body = do
  id ← id_only part
  done ← plain pairs body
  Ok (Write (QueryDelete id))

unfoldable pub query_execute : List ℕ → List Pair → List ℕ → Result Request RouteError
query_execute part pairs body = do
  name ← text_of p.IdOrName part
  center ← center_at pairs
  mode ← mode_at pairs
  unfiltered ← unfiltered_at pairs
  limit ← number_at p.Limit pairs
  fits ← short most body
  Ok (Execute name limit mode)
