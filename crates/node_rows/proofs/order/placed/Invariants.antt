use Rattle.std.proofs.Common.{◌≡◌, length}
use Rattle.cat_model.specs.Tables.{Ascends, put}
use Rattle.cat_model.specs.Syncs.{in_order}
use Rattle.node_rows.proofs.Onto.{onto}
use Rattle.node_rows.proofs.order.placed.Given as goal

abbrev pub invariant-loop-row : goal.invariant-loop-row
invariant-loop-row g l = (onto (put g.R.Row.cmp g.R.Row.key) l.left l.found.items ≡ in_order g.R.Row.cmp g.R.Row.key l.fn.rows) × Ascends g.R.Row.cmp g.R.Row.key l.found.items

abbrev pub decreases-loop-row : goal.decreases-loop-row
decreases-loop-row g l = length l.left
