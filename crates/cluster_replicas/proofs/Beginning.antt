-- What servers have that have just begun.
use Rattle.std.proofs.Common.{◌≡◌, ℕ, suc, ◌+◌, length, replicate, List, [], ◌∷◌, ◌++◌, refl, sym, ap, ◌∙◌, subst, arith}
use Rattle.std.proofs.lemmas.List.{length-append, replicate_more}
use Rattle.raft_model.specs.Node.{Node, Store}
use Rattle.raft_model.specs.World.{World, Begins, StartAll}
use Rattle.applied_state.specs.States.{ReplicaState, nothing_applied}
use Rattle.cluster_rules.specs.Cluster.{no_server}
use Rattle.cluster_replicas.specs.Servers.{AllFollow, servers_with}

-- one more that has applied nothing
pub one_more_idle : (xs : List ReplicaState) → xs ≡ replicate (length xs) nothing_applied → xs ++ nothing_applied ∷ [] ≡ replicate (length (xs ++ nothing_applied ∷ [])) nothing_applied
one_more_idle xs e =
    let size : length (xs ++ nothing_applied ∷ []) ≡ length xs + 1 = length-append xs (nothing_applied ∷ []) in
    ap (λ z. z ++ nothing_applied ∷ []) e ∙ replicate_more (length xs) nothing_applied ∙ ap (λ (k : ℕ). replicate k nothing_applied) (sym size)

idle_follow : (ns : List Node) → AllFollow ns (replicate (length ns) nothing_applied) × (servers_with ns (replicate (length ns) nothing_applied) ≡ replicate (length ns) no_server)
idle_follow [] = (tt, refl)
idle_follow (n ∷ ns) = let t = idle_follow ns in ((record { committed = omega arith; there = omega arith; same = refl }, t.0), ap (λ z. no_server ∷ z) t.1)

pub as_many_start : (servers id : ℕ) (stores : List Store) (ns : List Node) → StartAll servers id stores ns → length ns ≡ length stores
as_many_start servers id [] [] a = refl
as_many_start servers id [] (n ∷ ns) a = absurd a
as_many_start servers id (s ∷ ss) [] a = absurd a
as_many_start servers id (s ∷ ss) (n ∷ ns) a = ap suc (as_many_start servers (suc id) ss ns a.1)

-- servers that have just begun, of which each has an empty replica
pub start_idle : (stores : List Store) (w : World) → Begins stores w → (rs : List ReplicaState) (k : ℕ) → k ≡ length stores → rs ≡ replicate k nothing_applied
    → AllFollow w.nodes rs × (servers_with w.nodes rs ≡ replicate (length stores) no_server)
start_idle stores w b rs k count is =
    let size : length w.nodes ≡ length stores = as_many_start (length stores) 1 stores w.nodes b.nodes in
    let Goal : ℕ → List ReplicaState → Type 0 = λ m qs. AllFollow w.nodes qs × (servers_with w.nodes qs ≡ replicate m no_server) in
    let all : Goal (length w.nodes) (replicate (length w.nodes) nothing_applied) = idle_follow w.nodes in
    let here : Goal (length stores) (replicate (length stores) nothing_applied) = subst (λ (m : ℕ). Goal m (replicate m nothing_applied)) size all in
    subst (λ qs. Goal (length stores) qs) (sym (is ∙ ap (λ (m : ℕ). replicate m nothing_applied) count)) here
