use Rattle.raft_model.proofs.Theorems.{leads_alone}
use Rattle.raft_model.proofs.laws.a_term_has_one_leader.Goals as goal

pub returns : goal.returns
returns c = leads_alone
