use Rattle.cluster_rules.proofs.Numbers.{booked_kept}
use Rattle.cluster_rules.proofs.laws.marks_are_kept.Goals as goal

pub returns : goal.returns
returns c = booked_kept
