use Rattle.raft_model.proofs.Theorems.{keeping}
use Rattle.raft_model.proofs.laws.votes_are_kept.Goals as goal

pub returns : goal.returns
returns c = keeping
