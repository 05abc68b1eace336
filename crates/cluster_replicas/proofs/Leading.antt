-- What becomes of the servers where one has another time in office.
use Rattle.std.proofs.Common.{◌≡◌, ℕ, suc, ◌+◌, ◌<◌, length, set, get_or, List, sym, ap, ◌∙◌, subst, arith}
use Rattle.cat_model.specs.Catalog.{session_at}
use Rattle.cat_model.specs.Log.{commands_of}
use Rattle.cat_model.specs.Machine.{catalog_at}
use Rattle.cat_model.specs.declared.command.Command.{Command}
use Rattle.cat_model.specs.declared.row.SessionRow.{SessionRow}
use Rattle.cluster_rules.specs.Offices.{Office, ended_too, looks_on, renew_in}
use Rattle.raft_model.specs.Node.{Node}
use Rattle.raft_model.specs.World.{World}
use Rattle.raft_world.specs.Steps.{IsNumber}
use Rattle.applied_state.specs.States.{ReplicaState, in_office}
use Rattle.cluster_rules.specs.Cluster.{Server, clock_of, no_node, no_server, node_of, server_of}
use Rattle.cluster_replicas.specs.Servers.{AllFollow, Follows, Servers, officed, server_with, servers_with}
use Rattle.cluster_replicas.proofs.Following.{follows_at, named, replica_changes, server_at}
use Rattle.cluster_replicas.proofs.Seeing.{applied_are, at_place, seen}

office_at : (w : World) (rs : List ReplicaState) (at : ℕ) → AllFollow w.nodes rs → at < length w.nodes → (r : ReplicaState) → get_or rs at r ≡ r → (o : Office)
    → AllFollow w.nodes (set rs at (in_office o r)) × (seen w (set rs at (in_office o r)) ≡ officed (suc at) o (seen w rs))
office_at w rs at all within r is o =
    let m : Node = node_of w (suc at) in
    let follows : Follows m r = subst (λ (z : ReplicaState). Follows m z) is (follows_at w.nodes rs at no_node r all within) in
    let server : server_of (servers_with w.nodes rs) (suc at) ≡ server_with m r = server_at w.nodes rs at no_node r no_server all within ∙ ap (λ (z : ReplicaState). server_with m z) is in
    let changed = replica_changes w.nodes rs at no_node (in_office o r) all within (record { committed = follows.committed; there = follows.there; same = follows.same }) in
    let more : server_with m (in_office o r) ≡ record (server_of (servers_with w.nodes rs) (suc at)) { office = o } = ap (λ (z : Server). record z { office = o }) (sym server) in
    (changed.0, ap (λ (ss : List Server). record (seen w rs) { servers = ss }) changed.1 ∙ ap (λ (z : Server). record (seen w rs) { servers = set (servers_with w.nodes rs) at z }) more)

pub office_it : (w : World) (rs : List ReplicaState) (v : Servers) → seen w rs ≡ v → AllFollow w.nodes rs → (at s : ℕ) → at + 1 ≡ s → IsNumber s v.world → (r : ReplicaState) → get_or rs at r ≡ r
    → (o : Office) (new : ReplicaState) → new ≡ in_office o r → AllFollow w.nodes (set rs at new) × (seen w (set rs at new) ≡ officed s o v)
office_it w rs v view all at s place number r is o new made =
    let within : at < length w.nodes = omega (arith, place, number.1, ap (λ (u : Servers). length u.world.nodes) view) in
    let Goal : ℕ → Type 0 = λ k. AllFollow w.nodes (set rs at new) × (seen w (set rs at new) ≡ officed k o (seen w rs)) in
    let here : Goal (suc at) = subst (λ (z : ReplicaState). AllFollow w.nodes (set rs at z) × (seen w (set rs at z) ≡ officed (suc at) o (seen w rs))) (sym made) (office_at w rs at all within r is o) in
    let there : Goal s = subst Goal (named at s place) here in
    subst (λ (u : Servers). AllFollow w.nodes (set rs at new) × (seen w (set rs at new) ≡ officed s o u)) view there

-- the next look
pub look_it : (w : World) (rs : List ReplicaState) (v : Servers) → seen w rs ≡ v → AllFollow w.nodes rs → (at s : ℕ) → at + 1 ≡ s → IsNumber s v.world → (r : ReplicaState) → get_or rs at r ≡ r
    → (clock : ℕ) → clock ≡ clock_of w s → (new : ReplicaState) → new ≡ in_office (looks_on clock r.office) r
    → AllFollow w.nodes (set rs at new) × (seen w (set rs at new) ≡ officed s (looks_on (clock_of v.world s) (server_of v.servers s).office) v)
look_it w rs v view all at s place number r is clock time new made =
    let mine : (server_of v.servers s).office ≡ r.office = ap (λ (z : Server). z.office) (at_place w rs v view all at s place number r is).1 in
    let now : clock ≡ clock_of v.world s = time ∙ ap (λ (u : Servers). clock_of u.world s) view in
    let same : looks_on clock r.office ≡ looks_on (clock_of v.world s) (server_of v.servers s).office = ap (λ (k : ℕ). looks_on k r.office) now ∙ ap (looks_on (clock_of v.world s)) (sym mine) in
    office_it w rs v view all at s place number r is (looks_on (clock_of v.world s) (server_of v.servers s).office) new (made ∙ ap (λ (o : Office). in_office o r) same)

-- the office of a replica at a server's place
pub office_is : (w : World) (rs : List ReplicaState) (v : Servers) → seen w rs ≡ v → AllFollow w.nodes rs → (at s : ℕ) → at + 1 ≡ s → IsNumber s v.world → (r : ReplicaState) → get_or rs at r ≡ r → r.office ≡ (server_of v.servers s).office
office_is w rs v view all at s place number r is = sym (ap (λ (z : Server). z.office) (at_place w rs v view all at s place number r is).1)

-- a session is renewed
pub renew_it : (w : World) (rs : List ReplicaState) (v : Servers) → seen w rs ≡ v → AllFollow w.nodes rs → (at s : ℕ) → at + 1 ≡ s → IsNumber s v.world → (r : ReplicaState) → get_or rs at r ≡ r
    → (clock : ℕ) → clock ≡ clock_of w s → (id : ℕ) (new : ReplicaState) → new ≡ in_office (renew_in (session_at id (catalog_at r.commands).sessions) clock r.office) r
    → AllFollow w.nodes (set rs at new) × (seen w (set rs at new) ≡ officed s (renew_in (session_at id (catalog_at (commands_of (server_of v.servers s).applied)).sessions) (clock_of v.world s) (server_of v.servers s).office) v)
renew_it w rs v view all at s place number r is clock time id new made =
    let here = at_place w rs v view all at s place number r is in
    let are = applied_are (node_of v.world s) r (server_of v.servers s) here.0 here.1 in
    let log = commands_of (server_of v.servers s).applied in
    let now : clock ≡ clock_of v.world s = time ∙ ap (λ (u : Servers). clock_of u.world s) view in
    let same : renew_in (session_at id (catalog_at r.commands).sessions) clock r.office ≡ renew_in (session_at id (catalog_at log).sessions) (clock_of v.world s) (server_of v.servers s).office =
    ap (λ (l : List Command). renew_in (session_at id (catalog_at l).sessions) clock r.office) (sym are.1)
    ∙ ap (λ (k : ℕ). renew_in (session_at id (catalog_at log).sessions) k r.office) now
    ∙ ap (renew_in (session_at id (catalog_at log).sessions) (clock_of v.world s)) (office_is w rs v view all at s place number r is) in
    office_it w rs v view all at s place number r is _ new (made ∙ ap (λ (o : Office). in_office o r) same)

-- ends are proposed
pub end_it : (w : World) (rs : List ReplicaState) (v : Servers) → seen w rs ≡ v → AllFollow w.nodes rs → (at s : ℕ) → at + 1 ≡ s → IsNumber s v.world → (r : ReplicaState) → get_or rs at r ≡ r
    → (rows : List SessionRow) (new : ReplicaState) → new ≡ in_office (ended_too rows r.office) r → AllFollow w.nodes (set rs at new) × (seen w (set rs at new) ≡ officed s (ended_too rows (server_of v.servers s).office) v)
end_it w rs v view all at s place number r is rows new made =
    office_it w rs v view all at s place number r is _ new (made ∙ ap (λ (o : Office). in_office (ended_too rows o) r) (office_is w rs v view all at s place number r is))
