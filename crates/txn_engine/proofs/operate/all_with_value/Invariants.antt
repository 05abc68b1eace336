use Rattle.std.proofs.Common.{◌≡◌, ◌++◌}
use Rattle.cat_model.specs.Kv.{each_with_value}
use Rattle.txn_engine.proofs.operate.all_with_value.Given as goal

abbrev pub invariant-loop-row : goal.invariant-loop-row
invariant-loop-row l = l.results ++ each_with_value l.row-iterator ≡ each_with_value l.table.now
