-- What becomes of the servers where one applies its next position.
use Rattle.std.proofs.Common.{◌≡◌, ℕ, suc, ◌+◌, ◌<◌, length, take, set, get_or, List, Option, Some, sym, ap, ◌∙◌, subst, arith}
use Rattle.std.proofs.lemmas.List.{length-take-le}
use Rattle.cat_model.specs.declared.command.Entry.{Entry}
use Rattle.raft_model.specs.Log.{entry_at}
use Rattle.raft_model.specs.Node.{Node}
use Rattle.raft_model.specs.World.{World, IsServer}
use Rattle.raft_world.specs.Steps.{IsNumber}
use Rattle.applied_state.specs.States.{ReplicaState, applied_at}
use Rattle.cluster_rules.specs.Cluster.{Server, clock_of, no_node, no_server, node_of, server_of}
use Rattle.cluster_rules.specs.Due.{applies_entry}
use Rattle.cluster_replicas.specs.Servers.{AllFollow, Follows, HasNext, Servers, applies_next, server_with, servers_with}
use Rattle.cluster_replicas.proofs.Following.{follows_at, follows_more, is_node, named, replica_changes, server_at, server_more}
use Rattle.cluster_replicas.proofs.Seeing.{seen}

applies_at : (w : World) (rs : List ReplicaState) (at : ℕ) → AllFollow w.nodes rs → at < length w.nodes → (r : ReplicaState) → get_or rs at r ≡ r → (e : Entry) → entry_at (suc (length r.commands)) (node_of w (suc at)).log ≡ Some e → HasNext (seen w rs) (suc at)
    → AllFollow w.nodes (set rs at (applied_at e.command (clock_of w (suc at)) r)) × (seen w (set rs at (applied_at e.command (clock_of w (suc at)) r)) ≡ applies_next (suc at) (seen w rs))
applies_at w rs at all within r is e there next =
    let m : Node = node_of w (suc at) in
    let clock : ℕ = clock_of w (suc at) in
    let follows : Follows m r = subst (λ (z : ReplicaState). Follows m z) is (follows_at w.nodes rs at no_node r all within) in
    let server : server_of (servers_with w.nodes rs) (suc at) ≡ server_with m r = server_at w.nodes rs at no_node r no_server all within ∙ ap (λ (z : ReplicaState). server_with m z) is in
    let size : length (take (length r.commands) m.log) ≡ length r.commands = length-take-le (length r.commands) m.log follows.there in
    let shown : length (server_of (servers_with w.nodes rs) (suc at)).applied ≡ length r.commands = ap (λ (z : Server). length z.applied) server ∙ size in
    let less : length r.commands < m.commit = subst (λ (k : ℕ). k < m.commit) shown next in
    let changed = replica_changes w.nodes rs at no_node (applied_at e.command clock r) all within (follows_more m r e clock there follows less) in
    let entry : entry_at (suc (length (take (length r.commands) m.log))) m.log ≡ Some e = ap (λ (k : ℕ). entry_at (suc k) m.log) size ∙ there in
    let more : server_with m (applied_at e.command clock r) ≡ applies_entry clock (server_of (servers_with w.nodes rs) (suc at)) (entry_at (suc (length (server_of (servers_with w.nodes rs) (suc at)).applied)) m.log) =
    server_more m r e clock there ∙ ap (λ (o : Option Entry). applies_entry clock (server_with m r) o) (sym entry) ∙ ap (λ (z : Server). applies_entry clock z (entry_at (suc (length z.applied)) m.log)) (sym server) in
    (changed.0, ap (λ (ss : List Server). record (seen w rs) { servers = ss }) changed.1 ∙ ap (λ (z : Server). record (seen w rs) { servers = set (servers_with w.nodes rs) at z }) more)

pub applies_it : (w : World) (rs : List ReplicaState) (v : Servers) → seen w rs ≡ v → AllFollow w.nodes rs → (at s : ℕ) → at + 1 ≡ s → IsNumber s v.world → (r : ReplicaState) → get_or rs at r ≡ r
    → (n : Node) → IsServer w s n → (applied : ℕ) → applied ≡ length r.commands → (e : Entry) → entry_at (applied + 1) n.log ≡ Some e → HasNext v s → (clock : ℕ) → clock ≡ clock_of w s → (new : ReplicaState) → new ≡ applied_at e.command clock r
    → AllFollow w.nodes (set rs at new) × (seen w (set rs at new) ≡ applies_next s v)
applies_it w rs v view all at s place number r is n server applied count e there next clock time new made =
    let within : at < length w.nodes = omega (arith, place, number.1, ap (λ (u : Servers). length u.world.nodes) view) in
    let position : suc (length r.commands) ≡ applied + 1 = omega arith in
    let entry : entry_at (suc (length r.commands)) (node_of w s).log ≡ Some e = ap (λ (m : Node). entry_at (suc (length r.commands)) m.log) (sym (is_node w s n server)) ∙ ap (λ (k : ℕ). entry_at k n.log) position ∙ there in
    let Goal : ℕ → Type 0 = λ k. entry_at (suc (length r.commands)) (node_of w k).log ≡ Some e → HasNext (seen w rs) k → clock ≡ clock_of w k → AllFollow w.nodes (set rs at new) × (seen w (set rs at new) ≡ applies_next k (seen w rs)) in
    let here : Goal (suc at) = λ en nx tm.
    subst (λ (z : ReplicaState). AllFollow w.nodes (set rs at z) × (seen w (set rs at z) ≡ applies_next (suc at) (seen w rs))) (ap (λ (k : ℕ). applied_at e.command k r) (sym tm) ∙ sym made) (applies_at w rs at all within r is e en nx) in
    let there2 : Goal s = subst Goal (named at s place) here in
    subst (λ (u : Servers). HasNext u s → AllFollow w.nodes (set rs at new) × (seen w (set rs at new) ≡ applies_next s u)) view (λ nx. there2 entry nx time) next
