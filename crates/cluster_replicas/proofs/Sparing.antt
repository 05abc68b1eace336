-- What the channels that a server's next position fires say of its queries.
use Rattle.std.proofs.Common.{◌≡◌, ℕ, ◌+◌, ◌<◌, length, set, get_or, List, [], ◌∷◌, ◌++◌, refl, sym, ap, ◌∙◌, subst, arith}
use Rattle.std.proofs.lemmas.List.{get_or-set_same}
use Rattle.cat_model.specs.Log.{commands_of}
use Rattle.cat_model.specs.declared.command.Command.{Command}
use Rattle.cat_model.specs.declared.query.Chan.{Chan}
use Rattle.raft_model.specs.World.{World}
use Rattle.raft_world.specs.Steps.{IsNumber}
use Rattle.applied_state.specs.Sparing.{SparesOthers}
use Rattle.applied_state.specs.States.{ReplicaState, applied_at}
use Rattle.cluster_rules.specs.Cluster.{node_of, server_of}
use Rattle.cluster_replicas.specs.Servers.{AllFollow, Servers, servers_with}
use Rattle.cluster_replicas.proofs.Following.{same_length}
use Rattle.cluster_replicas.proofs.Seeing.{applied_are, at_place, seen}

-- the commands that a server shows are those of the replica at its place
shown : (w : World) (rs : List ReplicaState) (v : Servers) → seen w rs ≡ v → AllFollow w.nodes rs → (at s : ℕ) → at + 1 ≡ s → IsNumber s v.world
    → (r : ReplicaState) → get_or rs at r ≡ r → commands_of (server_of v.servers s).applied ≡ r.commands
shown w rs v view all at s place number r is =
    let placed = at_place w rs v view all at s place number r is in (applied_are (node_of v.world s) r (server_of v.servers s) placed.0 placed.1).1

pub spares_it : (w : World) (rs : List ReplicaState) (v : Servers) → seen w rs ≡ v → AllFollow w.nodes rs → (at s : ℕ) → at + 1 ≡ s → IsNumber s v.world
    → (r : ReplicaState) → get_or rs at r ≡ r → (command : Command) (clock : ℕ) (new : ReplicaState) → new ≡ applied_at command clock r → AllFollow w.nodes (set rs at new)
    → (fired : List Chan) → SparesOthers r.commands (r.commands ++ command ∷ []) fired
    → SparesOthers (commands_of (server_of v.servers s).applied) (commands_of (server_of (servers_with w.nodes (set rs at new)) s).applied) fired
spares_it w rs v view all at s place number r is command clock new made more fired spares =
    let here : IsNumber s w = subst (λ (u : Servers). IsNumber s u.world) (sym view) number in
    let within : at < length rs = omega (arith, same_length w.nodes rs all, place, here.1) in
    let before = shown w rs v view all at s place number r is in
    let after = shown w (set rs at new) (seen w (set rs at new)) refl more at s place here new (get_or-set_same rs at new new within) ∙ ap (λ (z : ReplicaState). z.commands) made in
    subst (λ old. SparesOthers old (commands_of (server_of (servers_with w.nodes (set rs at new)) s).applied) fired) (sym before) (subst (λ log. SparesOthers r.commands log fired) (sym after) spares)
