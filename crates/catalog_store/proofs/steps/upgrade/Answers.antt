use Rattle.catalog_store.specs.States.{now_of}
use Rattle.catalog_store.proofs.KeySteps.{upgrade_acts}
use Rattle.catalog_store.proofs.steps.upgrade.Goals as goal

pub returns-clause-acts : goal.returns-clause-acts
returns-clause-acts c = upgrade_acts c.args.position (now_of c.args.tables.now) c.requires c.new.result c.new.ensures
