use Rattle.std.proofs.Common.{◌≡◌, length}
use Rattle.node_rows.specs.Order.{ascends}
use Rattle.node_rows.proofs.order.ascends.Given as goal

abbrev pub invariant-loop-row : goal.invariant-loop-row
invariant-loop-row g l = ascends g.R.Row.cmp g.R.Row.key l.left ≡ ascends g.R.Row.cmp g.R.Row.key l.fn.rows

abbrev pub decreases-loop-row : goal.decreases-loop-row
decreases-loop-row g l = length l.left
