use Rattle.cluster_works.specs.Standing.{Stands}
use Rattle.cluster_works.proofs.rests.rest.Given as goal

abbrev pub invariant-loop-at : goal.invariant-loop-at
invariant-loop-at l s = Stands s.watch s.servers.world s.servers.servers s.requests

abbrev pub decreases-loop-at : goal.decreases-loop-at
decreases-loop-at l s = s.at
