use Rattle.cluster_rules.proofs.Numbers.{making_adds}
use Rattle.cluster_rules.proofs.laws.advancing_adds_marks.Goals as goal

pub returns : goal.returns
returns c = making_adds
