use Rattle.cluster_requests.proofs.Lifting.{takes_by, hands_by}
use Rattle.cluster_requests.proofs.laws.takings_lift.Goals as goal

pub returns-clause-request : goal.returns-clause-request
returns-clause-request c = λ w servers agents old new out number e t. takes_by w servers agents old new out number e t

pub returns-clause-sync : goal.returns-clause-sync
returns-clause-sync c = λ w servers agents old new out e t. hands_by w servers agents old new out e t
