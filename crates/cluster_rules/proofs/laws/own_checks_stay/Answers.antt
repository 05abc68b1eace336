use Rattle.cluster_rules.proofs.Own.{changed_apart, ticked_apart}
use Rattle.cluster_rules.proofs.laws.own_checks_stay.Goals as goal

pub returns-clause-asked : goal.returns-clause-asked
returns-clause-asked c = changed_apart

pub returns-clause-ticked : goal.returns-clause-ticked
returns-clause-ticked c = ticked_apart
