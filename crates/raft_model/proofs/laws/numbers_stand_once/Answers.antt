use Rattle.raft_model.proofs.Theorems.{once}
use Rattle.raft_model.proofs.laws.numbers_stand_once.Goals as goal

pub returns : goal.returns
returns c = once
