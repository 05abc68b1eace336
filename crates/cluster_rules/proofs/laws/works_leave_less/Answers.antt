use Rattle.cluster_rules.proofs.Measure.{did_less}
use Rattle.cluster_rules.proofs.laws.works_leave_less.Goals as goal

pub returns : goal.returns
returns c = did_less
