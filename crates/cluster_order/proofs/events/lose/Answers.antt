use Rattle.cluster_order.proofs.Working.{lost}
use Rattle.cluster_order.proofs.events.lose.Goals as goal

pub returns-clause-whole : goal.returns-clause-whole
returns-clause-whole g c = lost c.args.number _ _ _ _ c.note.ensures c.lose.ensures c.shelve.ensures
