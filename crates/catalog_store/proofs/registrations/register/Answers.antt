use Rattle.std.proofs.Common.{◌∙◌, ◌||◌, ap, subst}
use Rattle.cat_model.specs.declared.applied.Applied.TheVariants.{Yes, Refused}
use Rattle.cat_model.specs.declared.applied.Refuse.TheVariants.{MissingService}
use Rattle.catalog_table.specs.Steps.{IsNotDone, step_of}
use Rattle.catalog_table.specs.declared.fault.RegisterFault.TheVariants as faults
use Rattle.catalog_store.specs.States.{now_of}
use Rattle.catalog_store.specs.Registering.{is_there}
use Rattle.catalog_store.proofs.RowSteps.{registers, registration_step, refused_step}
use Rattle.catalog_store.proofs.registrations.register.Goals as goal

pub returns-in_ok-chans-in-Ok-clause-step : goal.returns-in_ok-chans-in-Ok-clause-step
returns-in_ok-chans-in-Ok-clause-step c =
    registration_step c.args.position c.args.command.now (registers c.args.command.now c.requires.kind) (now_of c.args.tables.now) c.requires.ready c.in_order.ensures
    c.register.new.self.now c.announce.new.indexes.now Yes c.in-Ok.changed c.args.node.now c.change_of-change.result c.in_ok-chans-in-Ok.chans
    c.requires.node c.in-Ok.ensures.ok c.in-Ok.ensures.tells
    (c.change_of-change.ensures ∙ (λ j. record { was = c.is_there-was.ensures j; is = is_there c.args.node.now c.register.new.self.now; rows = c.in-Ok.changed.nodes || c.in-Ok.changed.services; checks = c.in-Ok.changed.checks }))
    c.in_ok-chans-in-Ok.ensures.ok c.in_ok-chans-in-Ok.ensures.chans

pub returns-in-Err-MissingService-clause-step : goal.returns-in-Err-MissingService-clause-step
returns-in-Err-MissingService-clause-step c =
    let refused : IsNotDone (step_of c.args.position c.args.command.now c.args.tables.now.catalog.now) c.args.tables.now.catalog c.register.new.self faults.MissingService = subst (IsNotDone (step_of c.args.position c.args.command.now c.args.tables.now.catalog.now) c.args.tables.now.catalog c.register.new.self) c.in-Err-MissingService.field-0-is c.in-Err-MissingService.ensures.fault in
    refused_step c.args.position c.args.command.now (registers c.args.command.now c.requires.kind) (now_of c.args.tables.now) c.requires.ready c.in_order.ensures
    c.register.new.self.now (Refused MissingService) c.new.result refused.0 (ap (λ s. s.now) refused.1) c.new.ensures
