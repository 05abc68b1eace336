use Rattle.cluster_rules.proofs.Legal.{step_legal}
use Rattle.cluster_rules.proofs.laws.replies_are_legal.Goals as goal

pub returns : goal.returns
returns c = step_legal
