use Rattle.cluster_rules.proofs.Halts.{halts_counted}
use Rattle.cluster_rules.proofs.laws.halts_are_counted.Goals as goal

pub returns : goal.returns
returns c = halts_counted
