use Rattle.std.proofs.Common.{◌≡◌, ℕ}
use Rattle.txn_engine.specs.Changes.{AllWritten}
use Rattle.txn_engine.specs.Outcomes.{each_removed}
use Rattle.txn_engine.proofs.overlay.remove_each.Given as goal

abbrev pub invariant-loop-row : goal.invariant-loop-row
invariant-loop-row l = record {
  ok : each_removed l.row-iterator l.changes.now ≡ each_removed l.table.now l.initial.changes.now;
  written : (i : ℕ) → AllWritten i l.initial.changes.now → AllWritten i l.changes.now;
}
