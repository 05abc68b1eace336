-- What a cluster gives of a request, as its users' turns see it.
use Rattle.std.specs.Prelude.{◌≡◌, ◌⊎◌}
use Rattle.cluster_interface.specs.Taking.{DropsSyncs}
use Rattle.cluster_rules.specs.Cluster.{Cluster}
use Rattle.cluster_requests.specs.declared.collected.Collected as cluster
use Rattle.http_exchanges.specs.declared.cluster.Collected.{Collected}
use Rattle.http_exchanges.specs.declared.cluster.Collected.TheVariants as collected

-- the request is not closed
abbrev pub IsOpen : cluster.Collected → Type 0
IsOpen (cluster.TheVariants.Closed event) = ⊥
IsOpen other = Unit {0}

-- nothing changed, or the outs of syncs were dropped
abbrev pub Sifts : Cluster → Cluster → Type 0
Sifts c c' = (c' ≡ c) ⊎ DropsSyncs c c'

-- a request that is closed is none of these, so what is said of it does not matter
abbrev pub shared_of : cluster.Collected → Collected
shared_of (cluster.TheVariants.Ready reply) = collected.Ready reply
shared_of (cluster.TheVariants.Closed event) = collected.Gone
shared_of (cluster.TheVariants.NotYet wanted) = collected.NotYet
shared_of cluster.TheVariants.Gone = collected.Gone
