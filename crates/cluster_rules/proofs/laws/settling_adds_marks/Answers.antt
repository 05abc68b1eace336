use Rattle.cluster_rules.proofs.Numbers.{settling_adds}
use Rattle.cluster_rules.proofs.laws.settling_adds_marks.Goals as goal

pub returns : goal.returns
returns c = settling_adds
