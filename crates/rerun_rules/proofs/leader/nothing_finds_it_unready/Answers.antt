use Rattle.rerun_rules.proofs.Unready.{none_unready}
use Rattle.rerun_rules.proofs.leader.nothing_finds_it_unready.Goals as goal

pub returns : goal.returns
returns c = none_unready
