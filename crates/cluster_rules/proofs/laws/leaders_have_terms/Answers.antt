use Rattle.cluster_rules.proofs.Terms.{reached_has}
use Rattle.cluster_rules.proofs.laws.leaders_have_terms.Goals as goal

pub returns : goal.returns
returns c = reached_has
