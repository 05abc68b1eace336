use Rattle.std.proofs.lemmas.Result.{on_ok_weaker}
use Rattle.catalog_store.proofs.FreeingSteps.{frees_released, frees_buried}
use Rattle.catalog_store.proofs.key_commands.freed_keys.free_key.Goals as goal

pub returns-in-Release-clause-ok : goal.returns-in-Release-clause-ok
returns-in-Release-clause-ok c = on_ok_weaker c.release.result (frees_released c.args.holding.now c.args.position c.args.table.now c.release.new.table c.in-Release.is) c.release.ensures.ok

pub returns-in-Delete-clause-ok : goal.returns-in-Delete-clause-ok
returns-in-Delete-clause-ok c = on_ok_weaker c.bury.result (frees_buried c.args.holding.now c.args.position c.args.table.now c.bury.new.table c.in-Delete.is) c.bury.ensures.ok
