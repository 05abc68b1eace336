use Rattle.std.proofs.Common.{sym, ◌∙◌, subst}
use Rattle.cat_model.specs.declared.applied.Applied.TheVariants.{No}
use Rattle.cat_model.specs.declared.command.Command.TheVariants.{KvCas}
use Rattle.catalog_store.specs.Steps.{KeyStep}
use Rattle.catalog_store.proofs.Commands.{cas_step, cas_no}
use Rattle.catalog_store.proofs.key_commands.keys.check_and_set.Goals as goal

pub returns-then-not-can_set-clause-step : goal.returns-then-not-can_set-clause-step
returns-then-not-can_set-clause-step c sessions =
    subst (KeyStep c.args.w.now.version sessions c.args.w.now.position (KvCas c.args.w.now.key.now c.args.w.now.flags c.args.w.now.value.now c.args.index) c.args.table.now c.args.table.now No) (sym c.new.ensures)
    (cas_no c.args.w.now.version sessions c.args.w.now.position c.args.table.now c.args.w.now.key.now c.args.w.now.value.now c.args.w.now.flags c.args.index (sym c.can_set.ensures ∙ c.if-not-can_set.true))

pub returns-clause-step : goal.returns-clause-step
returns-clause-step c sessions =
    cas_step c.args.w.now.version sessions c.args.w.now.position c.args.table.now c.set.new.table c.in_ok-chans.chans c.args.w.now.key.now c.args.w.now.value.now c.args.w.now.flags c.args.index (sym c.can_set.ensures ∙ c.if-not-can_set.false) c.in_ok-chans.ensures.rows c.in_ok-chans.ensures.moves
