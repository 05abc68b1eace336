use Rattle.cluster_rules.proofs.Keeping.{step_keeps}
use Rattle.cluster_rules.proofs.laws.steps_keep_sound.Goals as goal

pub returns : goal.returns
returns c = step_keeps
