-- No step of the world changes what its servers have applied.
use Rattle.std.proofs.Common.{◌≡◌, ℕ, zero, suc, ◌+◌, inl, inr, length, take, set, List, Result, Ok, Err, refl, sym, ap, ◌∙◌, subst, arith}
use Rattle.std.specs.Prelude.{IfOk, OnErr, OnOk}
use Rattle.std.proofs.lemmas.List.{length-take-le}
use Rattle.cat_model.specs.declared.command.Command.{Command}
use Rattle.raft_model.specs.declared.message.Place.{Place}
use Rattle.raft_model.specs.declared.message.Round.{Round}
use Rattle.raft_model.specs.declared.message.Sent.{Sent}
use Rattle.raft_model.specs.Node.{Node, set_server}
use Rattle.raft_model.specs.Rules.{Input}
use Rattle.raft_model.specs.Step.{Outcome, NodeStep, arms}
use Rattle.raft_model.specs.World.{World, Acts, Arms, Drops, Restarts, Ticks, WorldStep}
use Rattle.raft_model.proofs.Going.{longer_length}
use Rattle.raft_node.specs.declared.fault.ProposeFault.{ProposeFault}
use Rattle.raft_node.specs.declared.fault.ProposeFault.TheVariants.{NotLeader, Halted, Full, Memory}
use Rattle.raft_world.specs.Steps.{Begun, Delivers, FindsNoMemory, Proposes, StepsWhole, StepsWorking}
use Rattle.raft_world.proofs.Fronting.{step_kept}
use Rattle.applied_state.specs.States.{ReplicaState, nothing_applied}
use Rattle.cluster_rules.specs.Cluster.{no_server}
use Rattle.cluster_replicas.specs.Servers.{AllFollow, Servers, servers_with}
use Rattle.cluster_replicas.proofs.Following.{Keeps, begins, named, node_changes}
use Rattle.cluster_replicas.proofs.Seeing.{seen}

-- the replicas follow the servers of another world, and what they have applied is the same there
abbrev pub Kept : World → World → Type 0
Kept w w' = (rs : List ReplicaState) → AllFollow w.nodes rs → AllFollow w'.nodes rs × (servers_with w'.nodes rs ≡ servers_with w.nodes rs)

keeps_committed : (outcome : Outcome) (old : Node) (input : Input) (new : Node) (sent : List Sent) → NodeStep outcome old input new sent → Keeps old new
keeps_committed outcome old input new sent step k below there =
    let size : length (take k old.log) ≡ k = length-take-le k old.log there in
    let f = step_kept (take k old.log) outcome old input new sent step (omega arith, ap (λ (i : ℕ). take i old.log) size) in
    let within = longer_length (take k old.log) new.log f.1 in
    (omega (arith, f.0), omega arith, ap (λ (i : ℕ). take i new.log) (sym size) ∙ f.1)

with_nodes : (w w' : World) → w'.nodes ≡ w.nodes → Kept w w'
with_nodes w w' e rs a = subst (λ (ns : List Node). AllFollow ns rs × (servers_with ns rs ≡ servers_with w.nodes rs)) (sym e) (a, refl)

same_kept : (w w' : World) → w' ≡ w → Kept w w'
same_kept w w' e = with_nodes w w' (ap (λ (v : World). v.nodes) e)

acts_kept : (w : World) (i : ℕ) (input : Input) (w' : World) → Acts w i input w' → Kept w w'
acts_kept w zero input w' acts rs a = absurd acts.server
acts_kept w (suc at) input w' acts rs a =
    let kept = node_changes w.nodes rs at acts.old acts.new a acts.server.1 (keeps_committed acts.outcome acts.old input acts.new acts.sent acts.step) in
    subst (λ (ns : List Node). AllFollow ns rs × (servers_with ns rs ≡ servers_with w.nodes rs)) (sym (ap (λ (v : World). v.nodes) acts.becomes)) kept

no_memory_kept : (w : World) (i : ℕ) (input : Input) (w' : World) → FindsNoMemory w i input w' → Kept w w'
no_memory_kept w i input w' (inl e) = same_kept w w' e
no_memory_kept w i input w' (inr s) = acts_kept w i input w' s.0

pub whole_kept : {T E : Type 0} (r : Result T E) (w : World) (i : ℕ) (input : Input) (w' : World) → OnOk r (StepsWhole w i input w') → OnErr r (FindsNoMemory w i input w') → Kept w w'
whole_kept (Ok x) w i input w' ok err = acts_kept w i input w' ok.0
whole_kept (Err e) w i input w' ok err = no_memory_kept w i input w' err

pub working_kept : {T E : Type 0} (r : Result T E) (w : World) (i : ℕ) (input : Input) (w' : World) → OnOk r (StepsWorking w i input w') → OnErr r (w' ≡ w) → Kept w w'
working_kept (Ok x) w i input w' ok err = acts_kept w i input w' ok.0
working_kept (Err e) w i input w' ok err = same_kept w w' err

pub delivery_kept : {T E : Type 0} (r : Result T E) (w : World) (k : ℕ) (w' : World) → OnOk r (Delivers StepsWhole w k w') → OnErr r (Delivers FindsNoMemory w k w') → Kept w w'
delivery_kept (Ok x) w k w' (p, is, ok) err = acts_kept w p.to _ w' ok.0
delivery_kept (Err e) w k w' ok (p, is, err) = no_memory_kept w p.to _ w' err

pub tick_kept : (w : World) (i d : ℕ) (w' : World) → WorldStep w (Ticks i d) w' → Kept w w'
tick_kept w i d w' (old, is, e) = with_nodes w w' (ap (λ (v : World). v.nodes) e)

pub loss_kept : (w : World) (k : ℕ) (w' : World) → WorldStep w (Drops k) w' → Kept w w'
loss_kept w k w' (p, is, e) = with_nodes w w' (ap (λ (v : World). v.nodes) e)

pub arming_kept : (w : World) (i nth : ℕ) (w' : World) → WorldStep w (Arms i nth) w' → Kept w w'
arming_kept w zero nth w' (old, is, e) rs a = absurd is
arming_kept w (suc at) nth w' (old, is, e) rs a =
    let kept = node_changes w.nodes rs at old (arms old nth) a is.1 (λ k below there. (below, there, refl)) in
    subst (λ (ns : List Node). AllFollow ns rs × (servers_with ns rs ≡ servers_with w.nodes rs)) (sym (ap (λ (v : World). v.nodes) e)) kept

pub proposal_kept : (w : World) (s number : ℕ) (command : Command) (w' : World) (r : Result Place ProposeFault) → Proposes w s number command w' r → Kept w w'
proposal_kept w s number command w' (Ok place) p = acts_kept w s _ w' p.acts
proposal_kept w s number command w' (Err NotLeader) p = acts_kept w s _ w' p.0.0.0
proposal_kept w s number command w' (Err Full) p = acts_kept w s _ w' p.0.0.0
proposal_kept w s number command w' (Err Halted) (inl p) = acts_kept w s _ w' p.0.0.0
proposal_kept w s number command w' (Err Halted) (inr p) = acts_kept w s _ w' p.0
proposal_kept w s number command w' (Err Memory) p = same_kept w w' p.0

pub probe_kept : {E : Type 0} (r : Result Round E) (w : World) (s : ℕ) (w' : World) → IfOk r (Begun w s w') → OnErr r (w' ≡ w) → Kept w w'
probe_kept (Ok round) w s w' ok err = acts_kept w s _ w' ok.0
probe_kept (Err e) w s w' ok err = same_kept w w' err

restart_here : (w : World) (rs : List ReplicaState) (at : ℕ) (w' : World) → WorldStep w (Restarts (suc at)) w' → AllFollow w.nodes rs
    → AllFollow w'.nodes (set rs at nothing_applied) × (servers_with w'.nodes (set rs at nothing_applied) ≡ set (servers_with w.nodes rs) at no_server)
restart_here w rs at w' (old, new, is, how, e) a =
    subst (λ (ns : List Node). AllFollow ns (set rs at nothing_applied) × (servers_with ns (set rs at nothing_applied) ≡ set (servers_with w.nodes rs) at no_server)) (sym (ap (λ (v : World). v.nodes) e)) (begins w.nodes rs at new a)

-- a server that begins again, with a replica that is empty
pub restart_begins : (w : World) (rs : List ReplicaState) (at s : ℕ) → suc at ≡ s → (w' : World) → WorldStep w (Restarts s) w' → AllFollow w.nodes rs
    → AllFollow w'.nodes (set rs at nothing_applied) × (servers_with w'.nodes (set rs at nothing_applied) ≡ set_server (servers_with w.nodes rs) s no_server)
restart_begins w rs at s place w' step a =
    subst (λ (k : ℕ). WorldStep w (Restarts k) w' → AllFollow w'.nodes (set rs at nothing_applied) × (servers_with w'.nodes (set rs at nothing_applied) ≡ set_server (servers_with w.nodes rs) k no_server)) place (λ st. restart_here w rs at w' st a) step

-- server s begins again, with a replica that is empty at its place
pub restarts_it : (w : World) (rs : List ReplicaState) (v : Servers) → seen w rs ≡ v → AllFollow w.nodes rs → (at s : ℕ) → at + 1 ≡ s → (new : ReplicaState) → new ≡ nothing_applied → (w' : World) → WorldStep w (Restarts s) w'
    → AllFollow w'.nodes (set rs at new) × (servers_with w'.nodes (set rs at new) ≡ set_server v.servers s no_server)
restarts_it w rs v view all at s place new is w' step =
    let Goal : ReplicaState → Type 0 = λ z. AllFollow w'.nodes (set rs at z) × (servers_with w'.nodes (set rs at z) ≡ set_server v.servers s no_server) in
    let made = restart_begins w rs at s (named at s place) w' step all in
    subst Goal (sym is) (made.0, made.1 ∙ ap (λ (u : Servers). set_server u.servers s no_server) view)
