use Rattle.std.proofs.Common.{List, [], ◌∙◌, sym, ap, subst}
use Rattle.cat_model.specs.Kv.{run_ops}
use Rattle.cat_model.specs.declared.applied.Applied.TheVariants.{RolledBack}
use Rattle.cat_model.specs.declared.command.Command.TheVariants.{Txn}
use Rattle.txn_engine.specs.declared.change.Change.{Change}
use Rattle.txn_engine.specs.Changes.{changed, Ends}
use Rattle.catalog_store.specs.Steps.{KeyStep}
use Rattle.catalog_store.proofs.Transactions.{went_step, failed_step}
use Rattle.catalog_store.proofs.key_commands.transactions.apply_txn.Goals as goal

pub returns-in-RolledBack-clause-step : goal.returns-in-RolledBack-clause-step
returns-in-RolledBack-clause-step c =
    let sessions = c.args.sessions.now.now in
    let old = c.args.table.now in
    subst (KeyStep c.args.version sessions c.args.position (Txn c.args.ops.now) old old (RolledBack c.in-RolledBack.op c.in-RolledBack.verb)) (sym c.new.ensures)
    (failed_step c.args.version sessions c.args.position c.args.ops.now old c.in-RolledBack.op c.in-RolledBack.verb
    (subst (Ends c.args.position old.now.rows (run_ops c.args.version c.args.position sessions 0 c.args.ops.now old.now.rows [])) c.in-RolledBack.is c.in_ok-op.ensures))

pub returns-in_ok-chans-in-Done-clause-step : goal.returns-in_ok-chans-in-Done-clause-step
returns-in_ok-chans-in-Done-clause-step c =
    let sessions = c.args.sessions.now.now in
    let old = c.args.table.now in
    went_step c.args.version sessions c.args.position c.args.ops.now old c.write_changes.new.table c.in_ok-chans-in-Done.chans c.in-Done.results c.in-Done.changes
    (subst (Ends c.args.position old.now.rows (run_ops c.args.version c.args.position sessions 0 c.args.ops.now old.now.rows [])) c.in-Done.is c.in_ok-op.ensures)
    (c.in_ok-chans-in-Done.ensures.rows ∙ ap (λ (l : List Change). changed l old.now.rows) c.as_slice.ensures)
    c.in_ok-chans-in-Done.ensures.moves
