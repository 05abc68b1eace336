use Rattle.catalog_store.proofs.Commands.{delete_step}
use Rattle.catalog_store.proofs.key_commands.keys.remove.Goals as goal

pub returns-clause-step : goal.returns-clause-step
returns-clause-step c version sessions = delete_step version sessions c.args.position c.args.table.now c.delete.new.table c.in_ok-chans.chans c.args.key.now c.in_ok-chans.ensures.rows c.in_ok-chans.ensures.moves
