use Rattle.rerun_rules.proofs.Ready.{counts_ready, stays_ready}
use Rattle.rerun_rules.proofs.leader.the_elected_is_ready.Goals as goal

pub returns : goal.returns
returns c = record { committed = stays_ready; applied = counts_ready }
