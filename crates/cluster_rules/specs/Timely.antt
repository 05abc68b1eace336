-- Nothing that a server noted, the clock of a position, of its taking office or of a renewal, lies ahead of its clock.
use Rattle.std.specs.Prelude.{ℕ}
use Rattle.cluster_rules.specs.Leases.{IsTimely}
use Rattle.cluster_rules.specs.Cluster.{Cluster, server_of, clock_of}

abbrev pub AreTimely : Cluster → Type 0
AreTimely c = (i : ℕ) → IsTimely (clock_of c.world i) (server_of c.servers i).clocks (server_of c.servers i).office
