use Rattle.std.proofs.Common.{◌≡◌, drop}
use Rattle.serde_json.specs.View.{items_view}
use Rattle.json_bodies.specs.Members.{each, with_front}
use Rattle.json_bodies.specs.AgentServices.{a_given}
use Rattle.json_bodies.proofs.agent_service.given_in.Given as goal

abbrev pub invariant-list : goal.invariant-list
invariant-list l = with_front l.checks (each a_given (items_view (drop l.value-index l.list))) ≡ each a_given (items_view l.list)
