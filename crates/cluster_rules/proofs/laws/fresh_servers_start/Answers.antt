use Rattle.cluster_rules.proofs.Starting.{fresh_start}
use Rattle.cluster_rules.proofs.laws.fresh_servers_start.Goals as goal

pub returns : goal.returns
returns c = fresh_start
