use Rattle.txn_engine.proofs.Written.{set_written}
use Rattle.txn_engine.proofs.overlay.put_change.Goals as goal

pub returns-clause-written : goal.returns-clause-written
returns-clause-written c = set_written c.set.result c.args.change c.args.changes.now.now c.set.new.table.now c.set.ensures.ok c.set.ensures.same
