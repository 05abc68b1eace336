use Rattle.std.proofs.Common.{◌≡◌, ◌+◌, ◌≤◌, [], length}
use Rattle.cat_model.specs.Kv.{run_ops}
use Rattle.txn_engine.specs.Changes.{changed, AllWritten}
use Rattle.txn_engine.proofs.engine.run.Given as goal

abbrev pub invariant-loop-op : goal.invariant-loop-op
invariant-loop-op g l = record {
  run :
      run_ops (g.R.KvRows.version l.rows) l.position (g.R.KvRows.sessions l.rows) l.place l.left (changed l.changes.now (g.R.KvRows.rows l.rows)) l.results
      ≡ run_ops (g.R.KvRows.version l.rows) l.position (g.R.KvRows.sessions l.rows) 0 l.ops (g.R.KvRows.rows l.rows) [];
  few : l.place + length l.left ≤ 64;
  written : AllWritten l.position l.changes.now;
}

abbrev pub decreases-loop-op : goal.decreases-loop-op
decreases-loop-op g l = length l.left
