use Rattle.std.proofs.Common.{◌∙◌}
use Rattle.catalog_store.specs.States.{now_of}
use Rattle.catalog_store.proofs.Endings.{destroyed}
use Rattle.catalog_store.proofs.steps.destroy.Goals as goal

pub returns-clause-step : goal.returns-clause-step
returns-clause-step c =
    destroyed c.args.position c.args.id (now_of c.args.tables.now) c.requires.ready c.as_slice.result.now (c.as_slice.ensures ∙ c.in_ok-gone.ensures) (now_of c.end.new.tables) c.in_ok-fired.fired c.in_ok-fired.ensures.ends
