use Rattle.cluster_rules.proofs.Theirs.{theirs}
use Rattle.cluster_rules.proofs.laws.replies_are_theirs.Goals as goal

pub returns : goal.returns
returns c = theirs
