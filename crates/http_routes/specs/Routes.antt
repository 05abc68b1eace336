-- What each route asks for, by its methods and by what stands for its path's parameter. Consul, HTTP API, version 1;
-- `upgrade` is this project's own.
use Rattle.std.specs.Prelude.{ℕ, List, Option, None, Some, Result, Ok, Err}
use Rattle.cat_model.specs.declared.query.Query.TheVariants as q
use Rattle.cat_model.specs.declared.request.AgentOp.TheVariants as op
use Rattle.cat_model.specs.declared.request.Asked.{Asked}
use Rattle.cat_model.specs.declared.request.Asked.TheVariants.{Good, Bad}
use Rattle.cat_model.specs.declared.request.Request.{Request}
use Rattle.cat_model.specs.declared.row.Status.TheVariants.{Passing, Warning, Critical}
use Rattle.http_routes.specs.declared.error.RouteError.{RouteError}
use Rattle.http_routes.specs.declared.error.RouteError.TheVariants.{NoRoute}
use Rattle.http_routes.specs.declared.table.Route.{Route}
use Rattle.http_routes.specs.declared.table.Route.TheVariants.{Kv, Txn, Catalog, Health, Session, Query, Agent}
use Rattle.http_routes.specs.declared.table.CatalogRoute.{CatalogRoute}
use Rattle.http_routes.specs.declared.table.CatalogRoute.TheVariants as c
use Rattle.http_routes.specs.declared.table.HealthRoute.{HealthRoute}
use Rattle.http_routes.specs.declared.table.HealthRoute.TheVariants as h
use Rattle.http_routes.specs.declared.table.SessionRoute.{SessionRoute}
use Rattle.http_routes.specs.declared.table.SessionRoute.TheVariants as s
use Rattle.http_routes.specs.declared.table.QueryRoute.{QueryRoute}
use Rattle.http_routes.specs.declared.table.QueryRoute.TheVariants as pq
use Rattle.http_routes.specs.declared.table.AgentRoute.{AgentRoute}
use Rattle.http_routes.specs.declared.table.AgentRoute.TheVariants as a
use Rattle.http_routes.specs.Errors.{refusal_of}
use Rattle.http_routes.specs.Targets.{path_of, query_of}
use Rattle.http_routes.specs.Params.{pairs_of}
use Rattle.http_routes.specs.Methods.{Methods, get, put, get_post, delete_get_put}
use Rattle.http_routes.specs.Paths.{found}
use Rattle.http_routes.specs.Filters.{pairs_left}
use Rattle.http_routes.specs.Kv.{kv_get, kv_put, kv_delete, transaction}
use Rattle.http_routes.specs.Catalog.{register, deregister, upgrade, whole, service, node, health_node, health_checks, health_service, health_state}
use Rattle.http_routes.specs.Sessions.{session_create, session_destroy, session_renew, session_info, session_node}
use Rattle.http_routes.specs.PreparedQueries.{query_create, query_info, query_update, query_delete, query_execute}
use Rattle.http_routes.specs.Agents.{listing, service_register, service_deregister, check_register, check_deregister, check_mark, check_update}

unfoldable pub catalog : CatalogRoute → List ℕ → Methods
catalog c.Register part = put register
catalog c.Deregister part = put deregister
catalog c.Upgrade part = put upgrade
catalog c.Nodes part = get (whole q.Nodes)
catalog c.Services part = get (whole q.Services)
catalog c.Service name = get (service name)
catalog c.Node name = get (node name)

unfoldable pub health : HealthRoute → List ℕ → Methods
health h.Node name = get (health_node name)
health h.Checks name = get (health_checks name)
health h.Service name = get (health_service name)
health h.State state = get (health_state state)

unfoldable pub session : SessionRoute → List ℕ → Methods
session s.Create part = put session_create
session s.Destroy id = put (session_destroy id)
session s.Renew id = put (session_renew id)
session s.Info id = get (session_info id)
session s.Node name = get (session_node name)
session s.List part = get (whole q.Sessions)

unfoldable pub query : QueryRoute → List ℕ → Methods
query pq.All part = get_post (whole q.Queries) query_create
query pq.One idn = delete_get_put (query_delete idn) (query_info idn) (query_update idn)
query pq.Execute idn = get (query_execute idn)

unfoldable pub agent : AgentRoute → List ℕ → Methods
agent a.Services part = get (listing op.Services)
agent a.Checks part = get (listing op.Checks)
agent a.ServiceRegister part = put service_register
agent a.ServiceDeregister id = put (service_deregister id)
agent a.CheckRegister part = put check_register
agent a.CheckDeregister id = put (check_deregister id)
agent a.CheckPass id = put (check_mark Passing id)
agent a.CheckWarn id = put (check_mark Warning id)
agent a.CheckFail id = put (check_mark Critical id)
agent a.CheckUpdate id = put (check_update id)

unfoldable pub methods : Route → List ℕ → Methods
methods Kv key = delete_get_put (kv_delete key) (kv_get key) (kv_put key)
methods Txn part = put transaction
methods (Catalog route) part = catalog route part
methods (Health route) part = health route part
methods (Session route) part = session route part
methods (Query route) part = query route part
methods (Agent route) part = agent route part

-- ---- the whole

-- A path that has no row is no route. The parameters are those without a filter that was read.
abbrev pub of_path : Option (Route × List ℕ) → Methods
of_path None method pairs body = Err NoRoute
of_path (Some (route, part)) method pairs body = methods route part method (pairs_left route pairs) body

unfoldable pub request_of : List ℕ → List ℕ → List ℕ → Result Request RouteError
request_of method target body = of_path (found (path_of target)) method (pairs_of (query_of target)) body

abbrev pub asked_of : Result Request RouteError → Asked
asked_of (Ok request) = Good request
asked_of (Err why) = Bad (refusal_of why)

-- what a method, a target and a body ask for
unfoldable pub route_of : List ℕ → List ℕ → List ℕ → Asked
route_of method target body = asked_of (request_of method target body)
