use Rattle.stale_view.proofs.Fronts.{prefix_self}
use Rattle.http_front.proofs.views.ViewedClusterSharedCluster.show.Goals as goal
use Rattle.http_front.proofs.views.ViewedClusterSharedCluster.show.Goals.{in-Ok, in-Err}

pub returns-clause-grown : goal.returns-clause-grown
returns-clause-grown g c = elim c.match-publish.branch [ in-Ok w ↦ rw w.viewer-is w.learn.ensures.grown | in-Err w ↦ rw w.viewer-is (prefix_self c.args.viewer.now) ]
