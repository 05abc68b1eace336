use Rattle.std.proofs.Common.{sym, ◌∙◌, subst}
use Rattle.cat_model.specs.declared.applied.Applied.TheVariants.{No, Refused}
use Rattle.cat_model.specs.declared.applied.Refuse.TheVariants.{UnknownSession}
use Rattle.cat_model.specs.declared.command.Command.TheVariants.{KvLock}
use Rattle.catalog_store.specs.Steps.{KeyStep}
use Rattle.catalog_store.proofs.Commands.{lock_step, lock_no, lock_refused}
use Rattle.catalog_store.proofs.key_commands.locks.acquire.Goals as goal

pub returns-then-not-known-clause-step : goal.returns-then-not-known-clause-step
returns-then-not-known-clause-step c sessions tells =
    subst (KeyStep c.args.w.now.version sessions c.args.w.now.position (KvLock c.args.w.now.key.now c.args.w.now.flags c.args.w.now.value.now c.args.session) c.args.table.now c.args.table.now (Refused UnknownSession)) (sym c.new.ensures)
    (lock_refused c.args.w.now.version sessions c.args.w.now.position c.args.table.now c.args.w.now.key.now c.args.w.now.value.now c.args.w.now.flags c.args.session (sym tells ∙ c.if-not-known.true))

pub returns-in_default-clause-step : goal.returns-in_default-clause-step
returns-in_default-clause-step c sessions tells =
    subst (KeyStep c.args.w.now.version sessions c.args.w.now.position (KvLock c.args.w.now.key.now c.args.w.now.flags c.args.w.now.value.now c.args.session) c.args.table.now c.args.table.now No) (sym c.new-in_default.ensures)
    (lock_no c.args.w.now.version sessions c.args.w.now.position c.args.table.now c.args.w.now.key.now c.args.w.now.value.now c.args.w.now.flags c.args.session (sym tells ∙ c.if-not-known.false) (sym c.in_default.is ∙ c.in_ok-index.ensures))

pub returns-clause-step : goal.returns-clause-step
returns-clause-step c sessions tells =
    lock_step c.args.w.now.version sessions c.args.w.now.position c.args.table.now c.put.new.table c.in_ok-chans.chans c.args.w.now.key.now c.args.w.now.value.now c.args.w.now.flags c.args.session c.in-Some.index (sym tells ∙ c.if-not-known.false) (sym c.in-Some.is ∙ c.in_ok-index.ensures) c.in_ok-chans.ensures.rows c.in_ok-chans.ensures.moves
