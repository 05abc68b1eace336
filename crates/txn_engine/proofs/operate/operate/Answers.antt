use Rattle.txn_engine.proofs.operate.operate.Goals as goal

pub returns-in-Delete-clause-written : goal.returns-in-Delete-clause-written
returns-in-Delete-clause-written g c = c.delete.ensures.written c.args.position

pub returns-in-DeleteTree-clause-written : goal.returns-in-DeleteTree-clause-written
returns-in-DeleteTree-clause-written g c = c.delete_tree.ensures.written c.args.position

pub returns-in-DeleteCas-clause-written : goal.returns-in-DeleteCas-clause-written
returns-in-DeleteCas-clause-written g c = c.delete_cas.ensures.written c.args.position
