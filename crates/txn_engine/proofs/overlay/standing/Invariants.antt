use Rattle.std.proofs.Common.{◌≡◌, ◌++◌, filter}
use Rattle.txn_engine.specs.Changes.{can_be_made}
use Rattle.txn_engine.proofs.overlay.standing.Given as goal

abbrev pub invariant-loop-change : goal.invariant-loop-change
invariant-loop-change g l = l.kept ++ filter (can_be_made (g.R.KvRows.rows l.rows)) l.change-iterator ≡ filter (can_be_made (g.R.KvRows.rows l.rows)) l.changes.now
