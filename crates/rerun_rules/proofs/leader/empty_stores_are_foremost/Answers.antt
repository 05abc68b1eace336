use Rattle.rerun_rules.proofs.Beginning.{empty_foremost}
use Rattle.rerun_rules.proofs.leader.empty_stores_are_foremost.Goals as goal

pub returns : goal.returns
returns c = empty_foremost
