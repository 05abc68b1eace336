use Rattle.std.proofs.Common.{sym, ◌∙◌, ◌++◌, ◌∷◌, [], ap, subst}
use Rattle.cat_model.specs.declared.applied.Applied.TheVariants.{Done}
use Rattle.cat_model.specs.declared.command.Command.TheVariants.{Reap}
use Rattle.cat_model.specs.declared.query.Chan.TheVariants.{Reaped}
use Rattle.catalog_store.specs.Steps.{PlainStep}
use Rattle.catalog_store.proofs.Commands.{reap_step}
use Rattle.catalog_store.proofs.key_commands.keys.reap.Goals as goal

pub returns-clause-step : goal.returns-clause-step
returns-clause-step c =
    subst (PlainStep c.args.position Reap c.args.table.now c.reap.new.self Done) (sym (c.in_ok-push.ensures.ok ∙ ap (λ l. l ++ Reaped ∷ []) c.new-chans.ensures))
    (λ version sessions. reap_step version sessions c.args.position c.args.table.now c.reap.new.self c.reap.ensures)
