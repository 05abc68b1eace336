use Rattle.cluster_rules.proofs.Settling.{settling_reaches}
use Rattle.cluster_rules.proofs.laws.settling_makes_pairs.Goals as goal

pub returns : goal.returns
returns c = settling_reaches
