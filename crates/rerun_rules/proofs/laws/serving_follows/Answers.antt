use Rattle.rerun_rules.proofs.Clusters.{serves_later}
use Rattle.rerun_rules.proofs.laws.serving_follows.Goals as goal

pub returns : goal.returns
returns c = serves_later
