use Rattle.cluster_requests.proofs.Lifting.{comes_by}
use Rattle.cluster_requests.proofs.laws.coming_lifts.Goals as goal

pub returns : goal.returns
returns c = comes_by
