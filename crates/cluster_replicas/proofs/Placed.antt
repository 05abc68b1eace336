-- The entries and terms of what a server has applied, which is a front of its node's log.
use Rattle.std.proofs.Common.{◌≡◌, ℕ, zero, suc, ◌<◌, ◌≤◌, length, take, get_or, List, [], ◌∷◌, None, refl, sym, ap, ◌∙◌, subst, arith, add-one}
use Rattle.std.proofs.lemmas.List.{get_or_default}
use Rattle.raft_model.specs.Log.{Log, entry_at, term_at}
use Rattle.raft_model.specs.Node.{Node}
use Rattle.raft_model.specs.World.{World, IsServer}
use Rattle.raft_world.specs.Steps.{CommitsWithin, IsNumber}
use Rattle.applied_state.specs.States.{ReplicaState, nothing_applied}
use Rattle.cluster_rules.specs.Cluster.{Server, no_node, node_of, server_of}
use Rattle.cluster_replicas.specs.Servers.{AllFollow, Follows, IsBehind, Servers, server_with}
use Rattle.cluster_replicas.specs.EntryTerms.{term_of}
use Rattle.cluster_replicas.proofs.Following.{is_node, same_length}
use Rattle.cluster_replicas.proofs.Seeing.{applied_are, at_place, seen}

pub entry_past : (i : ℕ) (log : Log) → length log < i → None ≡ entry_at i log
entry_past zero log l = refl
entry_past (suc n) [] l = refl
entry_past (suc zero) (e ∷ es) l = absurd (omega arith)
entry_past (suc (suc n)) (e ∷ es) l = entry_past (suc n) es (omega arith)

entry_front : (i k : ℕ) (log : Log) → i ≤ k → entry_at i log ≡ entry_at i (take k log)
entry_front zero k log l = refl
entry_front (suc n) zero log l = absurd (omega arith)
entry_front (suc n) (suc k) [] l = refl
entry_front (suc zero) (suc k) (e ∷ es) l = refl
entry_front (suc (suc n)) (suc k) (e ∷ es) l = entry_front (suc n) k es (omega arith)

pub term_there : (i : ℕ) (log : Log) → term_of (entry_at i log) ≡ term_at i log
term_there zero log = refl
term_there (suc n) [] = refl
term_there (suc zero) (e ∷ es) = refl
term_there (suc (suc n)) (e ∷ es) = term_there (suc n) es

-- A server's replica, in what the servers show.
has_replica : (w : World) (rs : List ReplicaState) (v : Servers) → seen w rs ≡ v → AllFollow w.nodes rs → (s : ℕ) → IsNumber s v.world
    → (r : ReplicaState) × Follows (node_of v.world s) r × (server_of v.servers s ≡ server_with (node_of v.world s) r)
has_replica w rs v view all zero number = absurd (omega (arith, number.0))
has_replica w rs v view all (suc at) number =
    let many = same_length w.nodes rs all in
    let within : at < length rs = omega (arith, many, number.1, ap (λ (u : Servers). length u.world.nodes) view) in
    let r : ReplicaState = get_or rs at nothing_applied in
    let placed = at_place w rs v view all at (suc at) (add-one at) number r (get_or_default rs at r nothing_applied within) in
    (r, placed.0, placed.1)

-- the node of a server is one of the world's
node_there : (w : World) (s : ℕ) → IsNumber s w → IsServer w s (node_of w s)
node_there w zero number = absurd (omega (arith, number.0))
node_there w (suc at) number = (omega (arith, number.1), get_or_default w.nodes at (node_of w (suc at)) no_node (omega (arith, number.1)))

pub behind : (w : World) (rs : List ReplicaState) (v : Servers) → seen w rs ≡ v → AllFollow w.nodes rs → CommitsWithin w → (s : ℕ) → IsNumber s v.world → IsBehind v s
behind w rs v view all within s number =
    let placed = has_replica w rs v view all s number in
    let are = applied_are (node_of v.world s) placed.0 (server_of v.servers s) placed.1 placed.2 in
    record {
      applied = omega (arith, are.0, placed.1.committed);
      committed = subst CommitsWithin (ap (λ (u : Servers). u.world) view) within s (node_of v.world s) (node_there v.world s number);
    }

-- What a server has applied is a front of its node's log.
front_is : (w : World) (rs : List ReplicaState) (v : Servers) → seen w rs ≡ v → AllFollow w.nodes rs → (s : ℕ) → IsNumber s v.world
    → (server_of v.servers s).applied ≡ take (length (server_of v.servers s).applied) (node_of v.world s).log
front_is w rs v view all s number =
    let placed = has_replica w rs v view all s number in
    let are = applied_are (node_of v.world s) placed.0 (server_of v.servers s) placed.1 placed.2 in
    ap (λ (z : Server). z.applied) placed.2 ∙ ap (λ (k : ℕ). take k (node_of v.world s).log) (sym are.0)

-- the entry at a position that a server has applied
pub entry_within : (w : World) (rs : List ReplicaState) (v : Servers) → seen w rs ≡ v → AllFollow w.nodes rs → (s : ℕ) → IsNumber s v.world
    → (n : Node) → IsServer w s n → (position : ℕ) → position ≤ length (server_of v.servers s).applied → entry_at position n.log ≡ entry_at position (server_of v.servers s).applied
entry_within w rs v view all s number n server position l =
    let node : n ≡ node_of v.world s = is_node w s n server ∙ ap (λ (u : Servers). node_of u.world s) view in
    ap (λ (m : Node). entry_at position m.log) node ∙ entry_front position (length (server_of v.servers s).applied) (node_of v.world s).log l ∙ ap (λ (log : Log). entry_at position log) (sym (front_is w rs v view all s number))
