-- What an agent is asked. Consul, HTTP API, "Agent": "Services", "Checks".
use Rattle.std.specs.Prelude.{ℕ, not, nat_le, List, length, Result, Ok, codes}
use Rattle.cat_model.specs.declared.request.AgentOp.{AgentOp}
use Rattle.cat_model.specs.declared.request.AgentOp.TheVariants.{DropService, AddCheck, DropCheck, Mark}
use Rattle.cat_model.specs.declared.request.Request.{Request}
use Rattle.cat_model.specs.declared.request.Request.TheVariants.{Agent}
use Rattle.cat_model.specs.declared.row.Status.{Status}
use Rattle.json_bodies.specs.AgentChecks.{agent_check_of, update_of}
use Rattle.json_bodies.specs.AgentServices.{add_service_of}
use Rattle.http_routes.specs.declared.error.Parameter.TheVariants as p
use Rattle.http_routes.specs.declared.error.RouteError.{RouteError}
use Rattle.http_routes.specs.declared.params.Pair.{Pair}
use Rattle.http_routes.specs.Errors.{◌>>=◌, refuse_if, in_body}
use Rattle.http_routes.specs.Targets.{text_of}
use Rattle.http_routes.specs.Params.{text_at}
use Rattle.http_routes.specs.Checks.{most, short, plain_at, plain}

-- its services, or its checks
unfoldable pub listing : AgentOp → List Pair → List ℕ → Result Request RouteError
listing op pairs body = plain pairs body >>= λ done. Ok (Agent op)

-- ---- services

unfoldable pub service_register : List Pair → List ℕ → Result Request RouteError
service_register pairs body = do
  done ← plain pairs body
  op ← in_body (add_service_of body)
  Ok (Agent op)

unfoldable pub service_deregister : List ℕ → List Pair → List ℕ → Result Request RouteError
service_deregister part pairs body = do
  id ← text_of p.Id part
  done ← plain pairs body
  Ok (Agent (DropService id))

-- ---- checks

unfoldable pub check_register : List Pair → List ℕ → Result Request RouteError
check_register pairs body = do
  done ← plain pairs body
  check ← in_body (agent_check_of body)
  Ok (Agent (AddCheck check))

unfoldable pub check_deregister : List ℕ → List Pair → List ℕ → Result Request RouteError
check_deregister part pairs body = do
  id ← text_of p.Id part
  done ← plain pairs body
  Ok (Agent (DropCheck id))

-- no note is longer than a body
unfoldable pub note_at : List Pair → Result (List ℕ) RouteError
note_at pairs = do
  fits ← refuse_if (not (nat_le (length (text_at (codes "note") pairs)) most)) p.Note
  Ok (text_at (codes "note") pairs)

-- a check that passes, warns or fails, with a note
unfoldable pub check_mark : Status → List ℕ → List Pair → List ℕ → Result Request RouteError
check_mark status part pairs body = do
  id ← text_of p.Id part
  done ← plain_at pairs
  note ← note_at pairs
  fits ← short most body
  Ok (Agent (Mark id status note))

unfoldable pub check_update : List ℕ → List Pair → List ℕ → Result Request RouteError
check_update part pairs body = do
  id ← text_of p.Id part
  done ← plain pairs body
  update ← in_body (update_of body)
  Ok (Agent (Mark id update.status update.output))
