use Rattle.std.proofs.Common.{◌≡◌, ◌++◌, length}
use Rattle.txn_engine.proofs.overlay.table_of.Given as goal

abbrev pub invariant-loop-row : goal.invariant-loop-row
invariant-loop-row l = l.left.items ++ l.table.now ≡ l.fn.rows

abbrev pub decreases-loop-row : goal.decreases-loop-row
decreases-loop-row l = length l.left.items
