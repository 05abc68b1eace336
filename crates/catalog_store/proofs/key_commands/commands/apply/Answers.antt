use Rattle.std.proofs.Common.{sym, subst}
use Rattle.cat_model.specs.declared.command.Command.{Command}
use Rattle.cat_model.specs.declared.applied.Applied.TheVariants.{Done}
use Rattle.cat_model.specs.declared.command.Command.TheVariants.{Noop, KvDelete, KvDeleteCas, KvDeleteTree, Reap}
use Rattle.catalog_store.specs.Steps.{KeyStep}
use Rattle.catalog_store.proofs.Commands.{noop_step, told_plain}
use Rattle.catalog_store.proofs.key_commands.commands.apply.Goals as goal

pub returns-in-Noop-clause-step : goal.returns-in-Noop-clause-step
returns-in-Noop-clause-step c sessions tells =
    subst (λ (x : Command). KeyStep c.args.version sessions c.args.position x c.args.table.now c.args.table.now Done c.new.result) (sym c.in-Noop.is)
    (subst (KeyStep c.args.version sessions c.args.position Noop c.args.table.now c.args.table.now Done) (sym c.new.ensures) (noop_step c.args.version sessions c.args.position c.args.table.now))

pub returns-in-KvDelete-clause-step : goal.returns-in-KvDelete-clause-step
returns-in-KvDelete-clause-step c = told_plain c.args.session_known c.args.version c.args.position c.args.command.now (KvDelete c.in-KvDelete.key) c.args.table.now c.remove.new.table c.remove.result (sym c.in-KvDelete.is) c.remove.ensures.step

pub returns-in-KvDeleteCas-clause-step : goal.returns-in-KvDeleteCas-clause-step
returns-in-KvDeleteCas-clause-step c = told_plain c.args.session_known c.args.version c.args.position c.args.command.now (KvDeleteCas c.in-KvDeleteCas.key c.in-KvDeleteCas.index) c.args.table.now c.check_and_remove.new.table c.check_and_remove.result (sym c.in-KvDeleteCas.is) c.check_and_remove.ensures.step

pub returns-in-KvDeleteTree-clause-step : goal.returns-in-KvDeleteTree-clause-step
returns-in-KvDeleteTree-clause-step c = told_plain c.args.session_known c.args.version c.args.position c.args.command.now (KvDeleteTree c.in-KvDeleteTree.prefix) c.args.table.now c.remove_tree.new.table c.remove_tree.result (sym c.in-KvDeleteTree.is) c.remove_tree.ensures.step

pub returns-in-Reap-clause-step : goal.returns-in-Reap-clause-step
returns-in-Reap-clause-step c = told_plain c.args.session_known c.args.version c.args.position c.args.command.now Reap c.args.table.now c.reap.new.table c.reap.result (sym c.in-Reap.is) c.reap.ensures.step
