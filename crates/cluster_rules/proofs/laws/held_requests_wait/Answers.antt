use Rattle.cluster_rules.proofs.Waiting.{all_wait}
use Rattle.cluster_rules.proofs.laws.held_requests_wait.Goals as goal

pub returns : goal.returns
returns c = all_wait
