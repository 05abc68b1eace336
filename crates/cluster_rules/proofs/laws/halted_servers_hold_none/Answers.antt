use Rattle.cluster_rules.proofs.Waiting.{none_at_halted}
use Rattle.cluster_rules.proofs.laws.halted_servers_hold_none.Goals as goal

pub returns : goal.returns
returns c = none_at_halted
