use Rattle.std.proofs.Common.{◌∙◌, ◌||◌, sym, refl}
use Rattle.cat_model.specs.declared.applied.Applied.TheVariants.{Yes}
use Rattle.cat_model.specs.declared.command.Command.TheVariants.{Deregister}
use Rattle.catalog_table.specs.Steps.{step_of}
use Rattle.catalog_store.specs.States.{now_of}
use Rattle.catalog_store.specs.Registering.{is_there}
use Rattle.catalog_store.proofs.RowSteps.{registration_step}
use Rattle.catalog_store.proofs.registrations.deregister.Goals as goal

pub returns-clause-step : goal.returns-clause-step
returns-clause-step c =
    registration_step c.args.position (Deregister c.args.node.now c.args.service.now c.args.check.now) tt (now_of c.args.tables.now) c.requires.ready c.in_order.ensures
    c.deregister.new.self.now c.announce.new.indexes.now Yes c.in_ok-changed.changed c.args.node.now c.change_of-change.result c.in_ok-chans.chans
    refl
    ((λ j. step_of c.args.position (Deregister (sym c.as_str.ensures j) (sym c.as_str-2.ensures j) (sym c.as_str-3.ensures j)) c.args.tables.now.catalog.now) ∙ c.in_ok-changed.ensures.ok)
    c.in_ok-changed.ensures.tells
    (c.change_of-change.ensures ∙ (λ j. record { was = c.is_there-was.ensures j; is = is_there c.args.node.now c.deregister.new.self.now; rows = c.in_ok-changed.changed.nodes || c.in_ok-changed.changed.services; checks = c.in_ok-changed.changed.checks }))
    c.in_ok-chans.ensures.ok c.in_ok-chans.ensures.chans
