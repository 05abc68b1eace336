-- What an act of a server leaves of the parts of a cluster.
use Rattle.std.specs.Prelude.{◌≡◌, ℕ, List, OnOk, IfErr, Result}
use Rattle.std.specs.List.{AllByRecursion as Each}
use Rattle.cat_model.specs.declared.request.Event.{Event}
use Rattle.cluster_rules.specs.Agents.{Agent}
use Rattle.raft_model.specs.World.{World}
use Rattle.cluster_rules.specs.Cluster.{Cluster, Pending, Server}
use Rattle.cluster_replicas.specs.Servers.{Servers}
use Rattle.cluster_order.specs.declared.cut.Cut.{Cut}
use Rattle.cluster_order.specs.Turns.{ActsCut, ActsWhole}
use Rattle.cluster_requests.specs.Requests.{Requests, cluster_of}
use Rattle.cluster_works.specs.Standing.{Stands}
use Rattle.cluster_works.specs.Watching.{MayBeDue, Watching}

-- Server i did, from this cluster on, what the event makes it do, whole or as far as memory reached, and the parts stand.
pub record Acted (agents : List Agent) (watch : Watching) (i : ℕ) (made : Event) (c : Cluster) (w' : World) (servers' : List Server) (r' : Requests) (result : Result Unit Cut) : Type 0 where
  pub stands : Stands watch w' servers' r'
  pub whole : OnOk result (ActsWhole i made c (cluster_of w' servers' agents r'))
  pub cut : IfErr result (λ cut. ActsCut i made cut c (cluster_of w' servers' agents r'))

-- From parts that stand, server i acts so, whatever agents there are, and whichever requests are awake.
abbrev pub ActsFrom : ℕ → Event → (old : Servers) → Requests → (new : Servers) → Requests → Result Unit Cut → Type 0
ActsFrom i made old r new r' result =
    (agents : List Agent) (watch : Watching) → Stands watch old.world old.servers r → Acted agents watch i made (cluster_of old.world old.servers agents r) new.world new.servers r' result

-- something may be due of all that server i holds
abbrev pub AreAwake : Watching → ℕ → List Pending → Type 0
AreAwake watch i held = Each (λ h. h.server ≡ i → MayBeDue h.question.number watch) held

-- The same of a restart, with what is awake, which is all that the server holds.
abbrev pub RestartsFrom : ℕ → Event → Watching → (old : Servers) → Requests → (new : Servers) → Requests → Result Unit Cut → Type 0
RestartsFrom i made watch old r new r' result =
    (agents : List Agent) → Acted agents watch i made (cluster_of old.world old.servers agents r) new.world new.servers r' result
