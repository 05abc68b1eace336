use Rattle.cluster_rules.proofs.Delaying.{delay_law}
use Rattle.cluster_rules.proofs.laws.delays_go_on.Goals as goal

pub returns : goal.returns
returns c = delay_law
