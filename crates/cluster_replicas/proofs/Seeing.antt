-- What the servers of a world show, with their replicas.
use Rattle.std.proofs.Common.{◌≡◌, ℕ, ◌+◌, ◌<◌, length, get_or, List, sym, ap, ◌∙◌, subst, arith}
use Rattle.std.proofs.lemmas.List.{length-take-le}
use Rattle.cat_model.specs.Log.{commands_of}
use Rattle.raft_model.specs.Node.{Node}
use Rattle.raft_model.specs.World.{World}
use Rattle.raft_world.specs.Steps.{IsNumber}
use Rattle.applied_state.specs.States.{ReplicaState}
use Rattle.cluster_rules.specs.Cluster.{Server, no_node, no_server, node_of, server_of}
use Rattle.cluster_replicas.specs.Servers.{AllFollow, Follows, Servers, server_with, servers_with}
use Rattle.cluster_replicas.proofs.Following.{follows_at, named, server_at}

-- the servers of a world with these replicas
abbrev pub seen : World → List ReplicaState → Servers
seen w rs = record { world = w; servers = servers_with w.nodes rs }

-- A replica at a server's place is what that server has applied, and follows its node.
pub at_place : (w : World) (rs : List ReplicaState) (v : Servers) → seen w rs ≡ v → AllFollow w.nodes rs → (at s : ℕ) → at + 1 ≡ s → IsNumber s v.world
    → (r : ReplicaState) → get_or rs at r ≡ r → Follows (node_of v.world s) r × (server_of v.servers s ≡ server_with (node_of v.world s) r)
at_place w rs v view a at s place number r is =
    let within : at < length w.nodes = omega (arith, place, number.1, ap (λ (u : Servers). length u.world.nodes) view) in
    let follows = subst (λ (z : ReplicaState). Follows (get_or w.nodes at no_node) z) is (follows_at w.nodes rs at no_node r a within) in
    let server = server_at w.nodes rs at no_node r no_server a within ∙ ap (λ (z : ReplicaState). server_with (get_or w.nodes at no_node) z) is in
    let Goal : Servers → ℕ → Type 0 = λ u k. Follows (node_of u.world k) r × (server_of u.servers k ≡ server_with (node_of u.world k) r) in
    subst (λ (u : Servers). Goal u s) view (subst (λ k. Goal (seen w rs) k) (named at s place) (follows, server))

-- how many positions a server has applied, and their commands
pub applied_are : (n : Node) (r : ReplicaState) (s : Server) → Follows n r → s ≡ server_with n r → (length s.applied ≡ length r.commands) × (commands_of s.applied ≡ r.commands) × (s.clocks ≡ r.clocks)
applied_are n r s f is =
    let size = length-take-le (length r.commands) n.log f.there in
    (ap (λ (z : Server). length z.applied) is ∙ size, ap (λ (z : Server). commands_of z.applied) is ∙ sym f.same, ap (λ (z : Server). z.clocks) is)
