use Rattle.catalog_store.proofs.Commands.{set_step}
use Rattle.catalog_store.proofs.key_commands.keys.write.Goals as goal

pub returns-clause-step : goal.returns-clause-step
returns-clause-step c sessions =
    set_step c.args.w.now.version sessions c.args.w.now.position c.args.table.now c.set.new.table c.in_ok-chans.chans c.args.w.now.key.now c.args.w.now.value.now c.args.w.now.flags c.in_ok-chans.ensures.rows c.in_ok-chans.ensures.moves
