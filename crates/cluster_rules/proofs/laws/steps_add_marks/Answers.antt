use Rattle.cluster_rules.proofs.Adding.{step_adds}
use Rattle.cluster_rules.proofs.laws.steps_add_marks.Goals as goal

pub returns : goal.returns
returns c = step_adds
