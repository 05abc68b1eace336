use Rattle.node_journals.proofs.Whole.{one_log}
use Rattle.node_journals.proofs.journals_have_one_log.Goals as goal

pub returns : goal.returns
returns c = one_log
