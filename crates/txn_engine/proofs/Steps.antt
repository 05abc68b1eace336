-- One operation of a run.
use Rattle.std.proofs.Common.{◌≡◌, ℕ, ◌+◌, List, [], ◌∷◌, ◌++◌, refl, ap, Some, length, arith}
use Rattle.cat_model.specs.Kv.{operate, run_ops, goes_on}
use Rattle.cat_model.specs.Kv.TxnRun.{Went, Failed_at}
use Rattle.cat_model.specs.declared.row.KvRow.{KvRow}
use Rattle.cat_model.specs.declared.row.SessionRow.{SessionRow}
use Rattle.cat_model.specs.declared.applied.TxnResult.{TxnResult}
use Rattle.cat_model.specs.declared.command.TxnOp.{TxnOp}

module _ (version i : ℕ) (sessions : List SessionRow) (place : ℕ) (op : TxnOp) (ops : List TxnOp) (old new : List KvRow) (results more : List TxnResult) (does : operate version i sessions op.verb op old ≡ Some (new, more)) where
  pub run_step : run_ops version i sessions place (op ∷ ops) old results ≡ run_ops version i sessions (place + 1) ops new (results ++ more)
  unfolding run_ops
  run_step = ap (λ o. goes_on o (Failed_at place op.verb) (λ done. run_ops version i sessions (place + 1) ops done.0 (results ++ done.1))) does

-- no operation is left
pub run_done : (version i : ℕ) (sessions : List SessionRow) (place : ℕ) (ops : List TxnOp) (rows : List KvRow) (results : List TxnResult) → length ops ≡ 0 → run_ops version i sessions place ops rows results ≡ Went rows results
unfolding run_ops
run_done version i sessions place [] rows results none = refl
run_done version i sessions place (op ∷ ops) rows results none = absurd (omega (arith, none))
