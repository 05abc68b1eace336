use Rattle.raft_model.proofs.Theorems.{first_run}
use Rattle.raft_model.proofs.laws.numbers_of_a_first_run.Goals as goal

pub returns : goal.returns
returns c = first_run
