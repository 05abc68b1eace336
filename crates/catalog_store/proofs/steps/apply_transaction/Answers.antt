use Rattle.std.proofs.Common.{refl}
use Rattle.std.proofs.lemmas.Result.{IfOk-weaker}
use Rattle.cat_model.specs.declared.command.Command.TheVariants.{Txn}
use Rattle.catalog_store.specs.States.{now_of}
use Rattle.catalog_store.proofs.KeySteps.{key_acts}
use Rattle.catalog_store.proofs.steps.apply_transaction.Goals as goal

pub returns-clause-acts : goal.returns-clause-acts
returns-clause-acts c = IfOk-weaker c.apply_txn.result _ _ (λ d step. key_acts c.args.position (Txn c.args.ops.now) (now_of c.args.tables.now) c.requires.ready c.args.tables.now.kv c.apply_txn.new.table d.0 d.1 refl step) c.apply_txn.ensures.step
