use Rattle.std.proofs.Common.{length, sym, subst}
use Rattle.std.proofs.lemmas.List.{length-map}
use Rattle.cluster_requests.specs.Requests as own
use Rattle.cluster_works.specs.Standing.{Stands}
use Rattle.cluster.proofs.Beginning.{begun_stands}
use Rattle.cluster.proofs.cluster.Cluster.with_agents.Goals as goal

pub invariant_of-result : goal.invariant_of-result
invariant_of-result g c =
    subst (λ (r : own.Requests). Stands c.args.watch c.in-Ok.servers.world c.in-Ok.servers.servers r) (sym c.new-in-Ok.ensures)
    (begun_stands c.args.watch _ (length c.args.keepers) c.in-Ok.servers.world c.in-Ok.servers.servers c.in-Ok.ensures.world c.requires.some (length-map c.args.keepers _) c.in-Ok.ensures.servers c.requires.watch)
