use Rattle.cluster_rules.proofs.Theirs.{gone_taken}
use Rattle.cluster_rules.proofs.laws.gone_were_taken.Goals as goal

pub returns : goal.returns
returns c = gone_taken
