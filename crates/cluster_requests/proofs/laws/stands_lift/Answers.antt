use Rattle.cluster_requests.proofs.Lifting.{restands_by}
use Rattle.cluster_requests.proofs.laws.stands_lift.Goals as goal

pub returns : goal.returns
returns c = λ h stand held a m. restands_by h stand held a m
