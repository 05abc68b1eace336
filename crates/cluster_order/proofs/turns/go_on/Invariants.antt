use Rattle.std.proofs.Common.{◌≡◌}
use Rattle.cluster_rules.specs.Due.{Works}
use Rattle.cluster_rules.specs.Left.{left}
use Rattle.cluster_order.specs.Evaluations.{Evaluates}
use Rattle.cluster_order.proofs.turns.go_on.Given as goal

abbrev pub invariant-loop : goal.invariant-loop
invariant-loop g l = (l.server ≡ l.fn.server) × Works l.fn.server (g.P.Parts.state l.fn.parts) (g.P.Parts.state l.parts) × Evaluates l.fn.steps l.steps (g.P.Parts.state l.fn.parts) (g.P.Parts.state l.parts)

abbrev pub decreases-loop : goal.decreases-loop
decreases-loop g l = left l.server (g.P.Parts.state l.parts)
