use Rattle.cluster_rules.proofs.Leasing.{ttl_law}
use Rattle.cluster_rules.proofs.laws.ttls_begin_anew.Goals as goal

pub returns : goal.returns
returns c = ttl_law
