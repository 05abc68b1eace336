use Rattle.raft_world.proofs.Sharing.{left_there}
use Rattle.raft_world.proofs.agreed.Agreed.leave.Goals as goal

pub returns-in_ok-entries-in-Committed-clause-ok : goal.returns-in_ok-entries-in-Committed-clause-ok
returns-in_ok-entries-in-Committed-clause-ok c =
    left_there c.args.self.now _ _ c.args.at c.args.log.now c.in_ok-entries-in-Committed.entries c.in-Committed.is c.if-place-at.true c.in_ok-entries-in-Committed.ensures
