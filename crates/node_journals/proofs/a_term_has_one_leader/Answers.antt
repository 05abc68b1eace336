use Rattle.node_journals.proofs.Whole.{one_leader}
use Rattle.node_journals.proofs.a_term_has_one_leader.Goals as goal

pub returns : goal.returns
returns c = one_leader
