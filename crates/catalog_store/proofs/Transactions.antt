-- What a transaction does.
use Rattle.std.proofs.Common.{◌≡◌, ℕ, List, [], refl, sym, ◌∙◌, ap}
use Rattle.cat_model.specs.Kv.{run_ops}
use Rattle.cat_model.specs.Kv.TxnRun.{Went, Failed_at}
use Rattle.cat_model.specs.Machine.{act, txn_end}
use Rattle.cat_model.specs.declared.query.Chan.{Chan}
use Rattle.cat_model.specs.declared.applied.Applied.TheVariants.{Results, RolledBack}
use Rattle.cat_model.specs.declared.applied.TxnResult.{TxnResult}
use Rattle.cat_model.specs.declared.row.SessionRow.{SessionRow}
use Rattle.cat_model.specs.declared.command.TxnOp.{TxnOp}
use Rattle.cat_model.specs.declared.command.Verb.{Verb}
use Rattle.cat_model.specs.declared.command.Command.TheVariants.{Txn}
use Rattle.txn_engine.specs.declared.change.Change.{Change}
use Rattle.txn_engine.specs.Changes.{changed, Through}
use Rattle.kv_table.specs.States.{KvVersions}
use Rattle.catalog_store.specs.Steps.{Moves, KeyStep}
use Rattle.catalog_store.proofs.Commands.{Does, step_of}
use Rattle.catalog_store.proofs.Removals.{unmoved}

module _ (version : ℕ) (sessions : List SessionRow) (i : ℕ) (ops : List TxnOp) (old : KvVersions) where
  pub went_step : (new : KvVersions) (chans : List Chan) (results : List TxnResult) (changes : List Change) → Through i old.now.rows (run_ops version i sessions 0 ops old.now.rows []) results changes
      → new.now.rows ≡ changed changes old.now.rows → Moves i old new chans → KeyStep version sessions i (Txn ops) old new (Results results) chans
  unfolding act
  went_step new chans results changes through rows moves = step_of version sessions i old new chans (Txn ops) (Results results) refl moves does
    where
      does : Does version sessions i old new chans (Txn ops) (Results results)
      does k v s =
          ap (λ n. txn_end (record k { kv = old.now.rows }) (run_ops n i k.sessions 0 ops old.now.rows [])) v
          ∙ ap (λ l. txn_end (record k { kv = old.now.rows }) (run_ops version i l 0 ops old.now.rows [])) s
          ∙ ap (txn_end (record k { kv = old.now.rows })) (through.went ∙ ap (λ r. Went r results) (sym rows))

  pub failed_step : (at : ℕ) (verb : Verb) → run_ops version i sessions 0 ops old.now.rows [] ≡ Failed_at at verb → KeyStep version sessions i (Txn ops) old old (RolledBack at verb) []
  unfolding act
  failed_step at verb failed = step_of version sessions i old old [] (Txn ops) (RolledBack at verb) refl (unmoved i old) does
    where
      does : Does version sessions i old old [] (Txn ops) (RolledBack at verb)
      does k v s =
          ap (λ n. txn_end (record k { kv = old.now.rows }) (run_ops n i k.sessions 0 ops old.now.rows [])) v
          ∙ ap (λ l. txn_end (record k { kv = old.now.rows }) (run_ops version i l 0 ops old.now.rows [])) s
          ∙ ap (txn_end (record k { kv = old.now.rows })) failed
