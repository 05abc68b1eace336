use Rattle.raft_model.proofs.Theorems.{matching}
use Rattle.raft_model.proofs.laws.logs_match.Goals as goal

pub returns : goal.returns
returns c = matching
