use Rattle.std.proofs.Common.{◌≡◌, ◌+◌, ◌-◌, ◌++◌, ◌≤◌, drop, length}
use Rattle.json_bodies.specs.AgentServices.{named_from}
use Rattle.json_bodies.proofs.agent_service.each_named.Given as goal

abbrev pub invariant-checks : goal.invariant-checks
invariant-checks l = (l.place ≤ length l.checks) × (l.all ++ named_from l.service l.several (l.place + 1) (drop l.place l.checks) ≡ named_from l.service l.several 1 l.checks)

abbrev pub decreases-checks : goal.decreases-checks
decreases-checks l = length l.checks - l.place
