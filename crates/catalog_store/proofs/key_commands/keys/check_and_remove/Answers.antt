use Rattle.std.proofs.Common.{sym, ◌∙◌, subst}
use Rattle.cat_model.specs.declared.applied.Applied.TheVariants.{No}
use Rattle.cat_model.specs.declared.command.Command.TheVariants.{KvDeleteCas}
use Rattle.catalog_store.specs.Steps.{PlainStep}
use Rattle.catalog_store.proofs.Commands.{delete_cas_step, delete_cas_no}
use Rattle.catalog_store.proofs.key_commands.keys.check_and_remove.Goals as goal

pub returns-then-is_held-clause-step : goal.returns-then-is_held-clause-step
returns-then-is_held-clause-step c =
    subst (PlainStep c.args.position (KvDeleteCas c.args.key.now c.args.index) c.args.table.now c.args.table.now No) (sym c.new.ensures)
    (λ version sessions. delete_cas_no version sessions c.args.position c.args.table.now c.args.key.now c.args.index (sym c.is_held.ensures ∙ c.if-is_held.true))

pub returns-clause-step : goal.returns-clause-step
returns-clause-step c version sessions = delete_cas_step version sessions c.args.position c.args.table.now c.delete.new.table c.in_ok-chans.chans c.args.key.now c.args.index (sym c.is_held.ensures ∙ c.if-is_held.false) c.in_ok-chans.ensures.rows c.in_ok-chans.ensures.moves
