use Rattle.rerun_rules.proofs.LeftAhead.{left_ahead}
use Rattle.rerun_rules.proofs.leader.stores_left_are_ahead.Goals as goal

pub returns : goal.returns
returns c = left_ahead
