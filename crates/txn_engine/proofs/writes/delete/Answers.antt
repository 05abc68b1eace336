use Rattle.txn_engine.proofs.writes.delete.Goals as goal

pub returns-clause-written : goal.returns-clause-written
returns-clause-written g c i = c.note.ensures.written i tt
