use Rattle.std.proofs.Common.{◌-◌, ◌≤◌}
use Rattle.cluster_rules.specs.Reached.{Settling}
use Rattle.cluster_order.specs.Evaluations.{Evaluates}
use Rattle.cluster_order.proofs.deliveries.settle.Given as goal

abbrev pub invariant-loop-pairs : goal.invariant-loop-pairs
invariant-loop-pairs g l = (l.pairs ≤ l.most) × Settling l.pairs (g.P.Parts.state l.fn.parts) (g.P.Parts.state l.parts) × Evaluates l.fn.steps l.steps (g.P.Parts.state l.fn.parts) (g.P.Parts.state l.parts)

abbrev pub decreases-loop-pairs : goal.decreases-loop-pairs
decreases-loop-pairs g l = l.most - l.pairs
