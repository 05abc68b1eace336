use Rattle.rerun_rules.proofs.Left.{left_foremost}
use Rattle.rerun_rules.proofs.leader.stores_left_are_foremost.Goals as goal

pub returns : goal.returns
returns c = left_foremost
