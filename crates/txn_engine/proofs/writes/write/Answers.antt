use Rattle.txn_engine.proofs.writes.write.Goals as goal

pub returns-clause-written : goal.returns-clause-written
returns-clause-written g c = c.note.ensures.written c.args.position c.in_ok-new.ensures.at
