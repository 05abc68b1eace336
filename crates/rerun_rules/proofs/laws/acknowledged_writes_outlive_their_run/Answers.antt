use Rattle.rerun_rules.proofs.Clusters.{writes_outlive}
use Rattle.rerun_rules.proofs.laws.acknowledged_writes_outlive_their_run.Goals as goal

pub returns : goal.returns
returns c = writes_outlive
