-- How a cluster begins.
use Rattle.std.specs.Prelude.{◌≡◌, ℕ, List}
use Rattle.raft_model.specs.Node.{Store}
use Rattle.raft_model.specs.World.{World, Begins}
use Rattle.cluster_rules.specs.Cluster.{Cluster, started}

-- servers that begin with these stores, and have applied nothing, and so many agents
abbrev pub HasBegun : List Store → ℕ → Cluster → Type 0
HasBegun stores agents c = (w : World) × Begins stores w × (c ≡ started w agents)
