use Rattle.rerun_rules.proofs.Answering.{none_lost}
use Rattle.rerun_rules.proofs.leader.nothing_is_lost.Goals as goal

pub returns : goal.returns
returns c = none_lost
