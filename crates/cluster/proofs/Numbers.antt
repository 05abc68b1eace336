-- The numbers of servers.
use Rattle.std.proofs.Common.{◌≡◌, ℕ, length, List, ap, arith}
use Rattle.raft_model.specs.World.{World}
use Rattle.raft_world.specs.Steps.{IsNumber}
use Rattle.cluster_rules.specs.Cluster.{Cluster, Server}
use Rattle.cluster_rules.specs.Reached.{IsServerNumber}
use Rattle.cluster_requests.specs.Requests.{Requests, cluster_of as whole_of}
use Rattle.cluster_works.specs.Standing as standing
use Rattle.cluster_rules.specs.Agents.{Agent}
use Rattle.cluster_works.specs.Watching.{Watching}

module _ (gs : List Agent) (wt : Watching) where
  -- the cluster of these parts, with these agents
  abbrev cluster_of : World → List Server → Requests → Cluster
  cluster_of w servers r = whole_of w servers gs r

  abbrev Stands : World → List Server → Requests → Type 0
  Stands w servers r = standing.Stands wt w servers r

  -- a server of the cluster is one of its world
  pub is_number : (w : World) (servers : List Server) (r : Requests) (c : Cluster) (s : ℕ) → Stands w servers r → cluster_of w servers r ≡ c → IsServerNumber c s → IsNumber s w
  is_number w servers r c s stands view number =
      let there = ap (λ (d : Cluster). length d.servers) view in (omega (arith, number.0), omega (arith, number.1, there, stands.count))

  -- and the other way round
  pub number_is : (w : World) (servers : List Server) (r : Requests) (c : Cluster) (s : ℕ) → Stands w servers r → cluster_of w servers r ≡ c → IsNumber s w → IsServerNumber c s
  number_is w servers r c s stands view number =
      let there = ap (λ (d : Cluster). length d.servers) view in (omega (arith, number.0), omega (arith, number.1, there, stands.count))
