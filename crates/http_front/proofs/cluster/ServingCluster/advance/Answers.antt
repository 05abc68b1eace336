use Rattle.http_front.proofs.Steps.{stands_by}
use Rattle.http_front.proofs.cluster.ServingCluster.advance.Goals as goal

pub returns-then-ms-eq0-clause-ticks : goal.returns-then-ms-eq0-clause-ticks
returns-then-ms-eq0-clause-ticks g c = stands_by c.args.ms _
