-- Each route gives requests that are taken.
use Rattle.std.proofs.Common.{◌≡◌, ℕ, Bool, true, false, List, Option, None, Some, Result, Ok, Err, IfOk, refl}
use Rattle.cat_model.specs.declared.command.Command.TheVariants.{Txn}
use Rattle.cat_model.specs.declared.command.TxnOp.{TxnOp}
use Rattle.cat_model.specs.declared.query.Query.{Query}
use Rattle.cat_model.specs.declared.query.Query.TheVariants as q
use Rattle.cat_model.specs.declared.request.AgentOp.{AgentOp}
use Rattle.cat_model.specs.declared.request.AgentOp.TheVariants as op
use Rattle.cat_model.specs.declared.request.Request.{Request}
use Rattle.cat_model.specs.declared.request.Request.TheVariants.{Write}
use Rattle.cat_model.specs.declared.row.Status.{Status}
use Rattle.cat_model.specs.declared.row.Status.TheVariants.{Passing, Warning, Critical}
use Rattle.json_bodies.specs.declared.error.ReadError.{ReadError}
use Rattle.json_bodies.specs.Deregisters.{deregister_of}
use Rattle.json_bodies.specs.Registers.{register_of}
use Rattle.json_bodies.specs.Txns.{ops_of}
use Rattle.http_routes.specs.declared.error.RouteError.{RouteError}
use Rattle.http_routes.specs.declared.kv.Condition.{Condition}
use Rattle.http_routes.specs.declared.kv.Condition.TheVariants.{Always, IfModifiedAt, Acquires, Releases}
use Rattle.http_routes.specs.declared.table.Route.{Route}
use Rattle.http_routes.specs.declared.table.Route.TheVariants as r
use Rattle.http_routes.specs.declared.table.CatalogRoute.{CatalogRoute}
use Rattle.http_routes.specs.declared.table.CatalogRoute.TheVariants as c
use Rattle.http_routes.specs.declared.table.HealthRoute.{HealthRoute}
use Rattle.http_routes.specs.declared.table.HealthRoute.TheVariants as h
use Rattle.http_routes.specs.declared.table.SessionRoute.{SessionRoute}
use Rattle.http_routes.specs.declared.table.SessionRoute.TheVariants as s
use Rattle.http_routes.specs.declared.table.QueryRoute.{QueryRoute}
use Rattle.http_routes.specs.declared.table.QueryRoute.TheVariants as pq
use Rattle.http_routes.specs.declared.table.AgentRoute.{AgentRoute}
use Rattle.http_routes.specs.declared.table.AgentRoute.TheVariants as a
use Rattle.http_routes.specs.Errors.{◌>>=◌, in_body}
use Rattle.http_routes.specs.Targets.{path_of, query_of as query_part}
use Rattle.http_routes.specs.Params.{pairs_of}
use Rattle.http_routes.specs.Kv.{put_on, deletion, kv_get, kv_put, kv_delete, transaction}
use Rattle.http_routes.specs.Checks.{plain}
use Rattle.http_routes.specs.Catalog.{register, deregister, upgrade, whole, service, node, health_node, health_checks, health_service, health_state}
use Rattle.http_routes.specs.Sessions.{session_create, session_destroy, session_renew, session_info, session_node}
use Rattle.http_routes.specs.PreparedQueries.{query_create, query_info, query_update, query_delete, query_execute}
use Rattle.http_routes.specs.Agents.{listing, service_register, service_deregister, check_register, check_deregister, check_mark, check_update}
use Rattle.http_routes.specs.Routes as routes
use Rattle.http_routes.specs.Routes.{methods, of_path, request_of, asked_of, route_of}
use Rattle.http_routes.specs.Paths.{found}
use Rattle.http_routes.specs.Filters.{pairs_left}
use Rattle.cat_model.specs.Taken.{is_command_taken, IsTakenAsked}
use Rattle.http_routes.proofs.Answers.{IsFit, after, after_command}
use Rattle.http_routes.proofs.Bodies.{IsShort, register_fit, deregister_fit, few}
use Rattle.http_routes.proofs.MethodAnswers.{AsksFit, MethodsFit, get_fits, put_fits, get_post_fits, delete_get_put_fits}

-- ---- keys

condition-fit : (on : Condition) (key : List ℕ) (flags : ℕ) (value : List ℕ) → is_command_taken (put_on on key flags value) ≡ true
condition-fit Always key flags value = refl
condition-fit (IfModifiedAt index) key flags value = refl
condition-fit (Acquires session) key flags value = refl
condition-fit (Releases session) key flags value = refl

deletion-fit : (recursive : Bool) (index : Option ℕ) (key : List ℕ) → is_command_taken (deletion recursive index key) ≡ true
deletion-fit true index key = refl
deletion-fit false None key = refl
deletion-fit false (Some index) key = refl

kv-get : (part : List ℕ) → AsksFit (kv_get part)
unfolding kv_get
kv-get part pairs body = search (after)

kv-put : (part : List ℕ) → AsksFit (kv_put part)
unfolding kv_put
kv-put part pairs body = search (after, condition-fit) depth 9

kv-delete : (part : List ℕ) → AsksFit (kv_delete part)
unfolding kv_delete
kv-delete part pairs body = search (after, deletion-fit) depth 9

transaction-fits : AsksFit transaction
unfolding transaction
transaction-fits pairs body = after (plain pairs body) (λ done. in_body (ops_of body) >>= λ ops. Ok (Write (Txn ops))) (λ done. short-ops (ops_of body) (few body))
  where
    short-ops : (r : Result (List TxnOp) ReadError) → IfOk r IsShort → IsFit (in_body r >>= λ ops. Ok (Write (Txn ops)))
    short-ops (Err why) h = tt
    short-ops (Ok ops) h = h

-- ---- the catalog and its health

register-fits : AsksFit register
unfolding register
register-fits pairs body = after (plain pairs body) (λ done. in_body (register_of body) >>= λ command. Ok (Write command)) (λ done. after_command (register_of body) (register_fit body))

deregister-fits : AsksFit deregister
unfolding deregister
deregister-fits pairs body = after (plain pairs body) (λ done. in_body (deregister_of body) >>= λ command. Ok (Write command)) (λ done. after_command (deregister_of body) (deregister_fit body))

upgrade-fits : AsksFit upgrade
unfolding upgrade
upgrade-fits pairs body = search (after) depth 9

whole-fits : (query : Query) → AsksFit (whole query)
unfolding whole
whole-fits query pairs body = search (after) depth 9

service-fits : (part : List ℕ) → AsksFit (service part)
unfolding service
service-fits part pairs body = search (after) depth 9

node-fits : (part : List ℕ) → AsksFit (node part)
unfolding node
node-fits part pairs body = search (after) depth 9

health-node : (part : List ℕ) → AsksFit (health_node part)
unfolding health_node
health-node part pairs body = search (after) depth 9

health-checks : (part : List ℕ) → AsksFit (health_checks part)
unfolding health_checks
health-checks part pairs body = search (after) depth 9

health-service : (part : List ℕ) → AsksFit (health_service part)
unfolding health_service
health-service part pairs body = search (after) depth 9

health-state : (part : List ℕ) → AsksFit (health_state part)
unfolding health_state
health-state part pairs body = search (after) depth 9

-- ---- sessions

session-create : AsksFit session_create
unfolding session_create
session-create pairs body = search (after) depth 9

session-destroy : (part : List ℕ) → AsksFit (session_destroy part)
unfolding session_destroy
session-destroy part pairs body = search (after) depth 9

session-renew : (part : List ℕ) → AsksFit (session_renew part)
unfolding session_renew
session-renew part pairs body = search (after) depth 9

session-info : (part : List ℕ) → AsksFit (session_info part)
unfolding session_info
session-info part pairs body = search (after) depth 9

session-node : (part : List ℕ) → AsksFit (session_node part)
unfolding session_node
session-node part pairs body = search (after) depth 9

-- ---- prepared queries

query-create : AsksFit query_create
unfolding query_create
query-create pairs body = search (after) depth 9

query-info : (part : List ℕ) → AsksFit (query_info part)
unfolding query_info
query-info part pairs body = search (after) depth 9

query-update : (part : List ℕ) → AsksFit (query_update part)
unfolding query_update
query-update part pairs body = search (after) depth 9

query-delete : (part : List ℕ) → AsksFit (query_delete part)
unfolding query_delete
query-delete part pairs body = search (after) depth 9

query-execute : (part : List ℕ) → AsksFit (query_execute part)
unfolding query_execute
query-execute part pairs body = search (after) depth 9

-- ---- agents

listing-fits : (op : AgentOp) → AsksFit (listing op)
unfolding listing
listing-fits op pairs body = search (after) depth 9

service-register : AsksFit service_register
unfolding service_register
service-register pairs body = search (after) depth 9

service-deregister : (part : List ℕ) → AsksFit (service_deregister part)
unfolding service_deregister
service-deregister part pairs body = search (after) depth 9

check-register : AsksFit check_register
unfolding check_register
check-register pairs body = search (after) depth 9

check-deregister : (part : List ℕ) → AsksFit (check_deregister part)
unfolding check_deregister
check-deregister part pairs body = search (after) depth 9

check-mark : (status : Status) (part : List ℕ) → AsksFit (check_mark status part)
unfolding check_mark
check-mark status part pairs body = search (after) depth 9

check-update : (part : List ℕ) → AsksFit (check_update part)
unfolding check_update
check-update part pairs body = search (after) depth 9

-- ---- the routes

catalog-fits : (route : CatalogRoute) (part : List ℕ) → MethodsFit (routes.catalog route part)
unfolding routes.catalog
catalog-fits c.Register part = put_fits register register-fits
catalog-fits c.Deregister part = put_fits deregister deregister-fits
catalog-fits c.Upgrade part = put_fits upgrade upgrade-fits
catalog-fits c.Nodes part = get_fits (whole q.Nodes) (whole-fits q.Nodes)
catalog-fits c.Services part = get_fits (whole q.Services) (whole-fits q.Services)
catalog-fits c.Service part = get_fits (service part) (service-fits part)
catalog-fits c.Node part = get_fits (node part) (node-fits part)

health-fits : (route : HealthRoute) (part : List ℕ) → MethodsFit (routes.health route part)
unfolding routes.health
health-fits h.Node part = get_fits (health_node part) (health-node part)
health-fits h.Checks part = get_fits (health_checks part) (health-checks part)
health-fits h.Service part = get_fits (health_service part) (health-service part)
health-fits h.State part = get_fits (health_state part) (health-state part)

session-fits : (route : SessionRoute) (part : List ℕ) → MethodsFit (routes.session route part)
unfolding routes.session
session-fits s.Create part = put_fits session_create session-create
session-fits s.Destroy part = put_fits (session_destroy part) (session-destroy part)
session-fits s.Renew part = put_fits (session_renew part) (session-renew part)
session-fits s.Info part = get_fits (session_info part) (session-info part)
session-fits s.Node part = get_fits (session_node part) (session-node part)
session-fits s.List part = get_fits (whole q.Sessions) (whole-fits q.Sessions)

query-fits : (route : QueryRoute) (part : List ℕ) → MethodsFit (routes.query route part)
unfolding routes.query
query-fits pq.All part = get_post_fits (whole q.Queries) query_create (whole-fits q.Queries) query-create
query-fits pq.One part = delete_get_put_fits (query_delete part) (query_info part) (query_update part) (query-delete part) (query-info part) (query-update part)
query-fits pq.Execute part = get_fits (query_execute part) (query-execute part)

agent-fits : (route : AgentRoute) (part : List ℕ) → MethodsFit (routes.agent route part)
unfolding routes.agent
agent-fits a.Services part = get_fits (listing op.Services) (listing-fits op.Services)
agent-fits a.Checks part = get_fits (listing op.Checks) (listing-fits op.Checks)
agent-fits a.ServiceRegister part = put_fits service_register service-register
agent-fits a.ServiceDeregister part = put_fits (service_deregister part) (service-deregister part)
agent-fits a.CheckRegister part = put_fits check_register check-register
agent-fits a.CheckDeregister part = put_fits (check_deregister part) (check-deregister part)
agent-fits a.CheckPass part = put_fits (check_mark Passing part) (check-mark Passing part)
agent-fits a.CheckWarn part = put_fits (check_mark Warning part) (check-mark Warning part)
agent-fits a.CheckFail part = put_fits (check_mark Critical part) (check-mark Critical part)
agent-fits a.CheckUpdate part = put_fits (check_update part) (check-update part)

methods-fit : (route : Route) (part : List ℕ) → MethodsFit (methods route part)
unfolding methods
methods-fit r.Kv part = delete_get_put_fits (kv_delete part) (kv_get part) (kv_put part) (kv-delete part) (kv-get part) (kv-put part)
methods-fit r.Txn part = put_fits transaction transaction-fits
methods-fit (r.Catalog route) part = catalog-fits route part
methods-fit (r.Health route) part = health-fits route part
methods-fit (r.Session route) part = session-fits route part
methods-fit (r.Query route) part = query-fits route part
methods-fit (r.Agent route) part = agent-fits route part

path-fits : (at : Option (Route × List ℕ)) → MethodsFit (of_path at)
path-fits None method pairs body = tt
path-fits (Some (route, part)) method pairs body = methods-fit route part method (pairs_left route pairs) body

asked-fits : (r : Result Request RouteError) → IsFit r → IsTakenAsked (asked_of r)
asked-fits (Ok request) h = h
asked-fits (Err why) h = tt

-- what a method, a target and a body ask for is taken
pub route_is_taken : (method target body : List ℕ) → IsTakenAsked (route_of method target body)
unfolding route_of request_of
route_is_taken method target body = asked-fits _ (path-fits (found (path_of target)) method (pairs_of (query_part target)) body)
