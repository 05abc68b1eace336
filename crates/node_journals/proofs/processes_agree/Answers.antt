use Rattle.node_journals.proofs.Whole.{agree}
use Rattle.node_journals.proofs.processes_agree.Goals as goal

pub returns : goal.returns
returns c = agree
