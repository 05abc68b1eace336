-- Agents' events, and the steps that they are.
use Rattle.std.proofs.Common.{◌≡◌, ◌≢◌, inl, inr, ℕ, Bool, true, false, cond, List, length, None, Some, refl, sym, ◌∙◌, ap, subst, arith, is_some, ◌&&◌}
use Rattle.cat_model.specs.declared.request.Asked.{Asked}
use Rattle.cat_model.specs.declared.request.Asked.TheVariants.{Good}
use Rattle.cat_model.specs.declared.request.Draw.{Draw}
use Rattle.cat_model.specs.declared.request.Request.TheVariants.{Agent}
use Rattle.cat_model.specs.declared.request.Event.{Event}
use Rattle.cat_model.specs.declared.request.Event.TheVariants as event
use Rattle.raft_model.specs.World.{World}
use Rattle.cluster_rules.specs.Agents.{Agent as AgentState, new_agent, change, changes, wants_sync}
use Rattle.cluster_rules.specs.Cluster.{Cluster, item_of}
use Rattle.cluster_rules.specs.Due.{due, Works, none, IsMadeUp}
use Rattle.cluster_rules.specs.Proposals.{is_agents, sync_of, agent_did}
use Rattle.cluster_rules.specs.Requests.{way_of, asked_server}
use Rattle.cluster_rules.specs.Reached.{IsServerNumber, IsAgentNumber, Fits}
use Rattle.cluster_rules.specs.Step.{acts_of, syncs, over, act, cut, stays, leaderless, ClusterStep, done, passed, cut_early, marked, noted, shelved, goes, goes_to, sync_goes}
use Rattle.cluster_order.specs.declared.cut.Cut.{Cut}
use Rattle.cluster_order.specs.declared.cut.Cut.TheVariants.{Before, Within}
use Rattle.cluster_order.specs.Turns.{WorkedSome, MadeUp, FellBehind, FindsNoMemory, cut_after}
use Rattle.cluster_order.specs.AgentEvents.{is_for_agent, agent_in, sync_way, SyncsThere, IsAlone, alone, IsNoted, with_number, SyncsAt, IsSynced, IsSyncedInPart}
use Rattle.cluster_order.proofs.Keeping.{Keeps, works_keep, agent_servers, synced_servers}
use Rattle.cluster_order.proofs.Numbering.{made_up_numbered, works_come}
use Rattle.cluster_order.proofs.Working.{made_up_by}

untrue : false ≡ true → ⊥
untrue e = cc e

-- whether a sync is a part of an event is read off the agents alone
pub sync_same : (made : Event) (c c' : Cluster) → c'.agents ≡ c.agents → sync_of c' made ≡ sync_of c made
sync_same (event.Sync a) c c' e = refl
sync_same (event.AgentTick a ms) c c' e = ap (λ (z : List AgentState). cond (wants_sync ms (item_of new_agent z a)) (Some a) None) e
sync_same (event.Ask a (Good (Agent op)) draw) c c' e = ap (λ (z : List AgentState). cond (changes op && is_some (change a op (item_of new_agent z a))) (Some a) None) e
sync_same other c c' e = refl

-- and its way off the world and the number of servers
pub way_same : (agent : ℕ) (c c' : Cluster) → c'.world ≡ c.world → length c'.servers ≡ length c.servers → sync_way agent c' ≡ sync_way agent c
way_same agent c c' w n =
    ap (λ (v : World). way_of v (asked_server (length c'.servers) agent) false) w ∙ ap (λ (k : ℕ). way_of c.world (asked_server k agent) false) n

there_same : (i : ℕ) (made : Event) (c c' : Cluster) → c'.world ≡ c.world → length c'.servers ≡ length c.servers → c'.agents ≡ c.agents → SyncsThere i made c → SyncsThere i made c'
there_same i made c c' w n g (p, q) = (sync_same made c c' g ∙ p, way_same (agent_in made) c c' w n ∙ q)

pub there_kept : (i : ℕ) (made : Event) (c c' : Cluster) → Keeps c c' → SyncsThere i made c → SyncsThere i made c'
there_kept i made c c' k t = there_same i made c c' k.world k.servers k.agents t

-- marks and numbers change none of these
mark_world : (made : Event) (c : Cluster) → (marked made c).world ≡ c.world
mark_world (event.Ask agent asked draw) c = refl
mark_world other c = refl

mark_servers : (made : Event) (c : Cluster) → length (marked made c).servers ≡ length c.servers
mark_servers (event.Ask agent asked draw) c = refl
mark_servers other c = refl

mark_agents : (made : Event) (c : Cluster) → (marked made c).agents ≡ c.agents
mark_agents (event.Ask agent asked draw) c = refl
mark_agents other c = refl

number_servers : (made : Event) (c : Cluster) → length (with_number made c).servers ≡ length c.servers
number_servers (event.Ask agent asked draw) c = refl
number_servers other c = refl

there_numbered : (i : ℕ) (made : Event) (c : Cluster) → SyncsThere i made c → SyncsThere i made (with_number made c)
there_numbered i (event.Ask agent asked draw) c t = there_same i (event.Ask agent asked draw) c (with_number (event.Ask agent asked draw) c) refl refl refl t
there_numbered i other c t = t

-- the agent of the sync is the event's
cond_some : (b : Bool) (a x : ℕ) → cond b (Some a) None ≡ Some x → x ≡ a
cond_some true a x e = cc e
cond_some false a x e = absurd cc

pub sync_agent : (made : Event) (c : Cluster) (x : ℕ) → sync_of c made ≡ Some x → x ≡ agent_in made
sync_agent (event.Sync a) c x e = cc e
sync_agent (event.AgentTick a ms) c x e = cond_some _ a x e
sync_agent (event.Ask a (Good (Agent op)) draw) c x e = cond_some _ a x e
sync_agent other c x e = absurd (cc e)

-- an agent's event goes where its sync does
agents_goes : (i : ℕ) (made : Event) (c : Cluster) → is_agents made ≡ true → SyncsThere i made c → goes_to c made ≡ Some i
agents_goes i (event.Sync a) c g (p, q) = ap (λ w. goes (Some w)) q
agents_goes i (event.AgentTick a ms) c g (p, q) = ap (sync_goes c) p ∙ ap (λ w. goes (Some w)) q
agents_goes i (event.Ask a (Good (Agent op)) draw) c g (p, q) = ap (sync_goes c) p ∙ ap (λ w. goes (Some w)) q
agents_goes i other c g t = absurd (untrue g)

pub agent_fits : (made : Event) (c : Cluster) → is_agents made ≡ true → Fits c made → IsAgentNumber c (agent_in made)
agent_fits (event.Sync a) c g f = f
agent_fits (event.AgentTick a ms) c g f = f
agent_fits (event.Ask a asked draw) c g f = f
agent_fits other c g f = absurd (untrue g)

one_act : (made : Event) → is_agents made ≡ true → 1 ≡ acts_of made
one_act (event.Tick s ms) g = absurd (untrue g)
one_act other g = refl

-- an agent's request is one that it answers itself
pub for_agent : (agent : ℕ) (asked : Asked) (draw : Draw) → is_for_agent asked ≡ true → is_agents (event.Ask agent asked draw) ≡ true
for_agent agent (Good (Agent op)) draw e = refl
for_agent agent other draw e = absurd (untrue e)

-- the request is still noted last
pub noted_still : (i : ℕ) (made : Event) (c c' : Cluster) → Works i c c' → IsNoted made c.past → IsNoted made c'.past
noted_still i (event.Ask agent asked draw) c c' p n = works_come i agent asked draw c c' p n
noted_still i other c c' p n = tt

pub noted_first : (made : Event) (a b : Cluster) → b ≡ noted made a → IsNoted made b.past
noted_first (event.Ask agent asked draw) a b e = subst (λ (z : Cluster). IsNoted (event.Ask agent asked draw) z.past) (sym e) refl
noted_first other a b e = tt

-- an event that goes to no server
pub stayed : (quiet : Bool) (made : Event) (a b c : Cluster) → is_agents made ≡ true → IsAlone quiet made a → b ≡ alone quiet made a → c ≡ shelved b → ClusterStep a made c true
stayed false made a b c g s e f = passed b refl (stays g (sync_same made a (marked made a) (mark_agents made a) ∙ s) e) f
stayed true made a b c g (s, w) e f =
    passed b refl (leaderless (agent_in made) w.0 g (sync_same made a (marked made a) (mark_agents made a) ∙ s) (way_same (agent_in made) a (marked made a) (mark_world made a) (mark_servers made a) ∙ w.1) e) f

-- where the sync is made
pub synced_server : (i s : ℕ) (made : Event) (c c' : Cluster) (whole : Bool) → SyncsAt i made c c' whole → IsServerNumber c s → IsServerNumber c' s
synced_server i s made c c' whole x p =
    let e = synced_servers i (agent_in made) _ (agent_did made (with_number made c)) c' whole x ∙ agent_servers (with_number made c) made ∙ number_servers made c in
    (p.0, omega (arith, e, p.1))

pub synced_by : (i : ℕ) (made : Event) (was : Bool) (a b c d : Cluster) → MadeUp i was a b → SyncsAt i made b c true → Works i c d → due i d ≡ None → IsSynced i made a d
synced_by i made was a b c d m x p n = (b, c, made_up_by i was a b m, x, (p, n))

pub synced_behind : (i : ℕ) (made : Event) (was : Bool) (a b c d : Cluster) → MadeUp i was a b → SyncsAt i made b c true → Works i c d → due i d ≢ None → IsSyncedInPart i made Within a d
synced_behind i made was a b c d m x p n = inr (inr (b, c, made_up_by i was a b m, x, p, n))

pub synced_in_part : (i : ℕ) (made : Event) (was : Bool) (a b c : Cluster) → MadeUp i was a b → SyncsAt i made b c false → IsSyncedInPart i made Within a c
synced_in_part i made was a b c m x = inr (inl (b, made_up_by i was a b m, x))

pub synced_before : (i : ℕ) (made : Event) (was : Bool) (a b c : Cluster) → MadeUp i was a b → c ≡ b → IsSyncedInPart i made (cut_after was) a c
synced_before i made true a b c m e = inl (subst (WorkedSome i a) (sym e) m.0)
synced_before i made false a b c m e = subst (λ z. z ≡ a) (sym e) m.1

pub synced_at_first : (i : ℕ) (made : Event) (found : Cut) (a b : Cluster) → FellBehind i found a b → IsSyncedInPart i made found a b
synced_at_first i made Before a b m = m.1
synced_at_first i made Within a b m = inl m.0

-- a request has its number as if it had had it before
made_up_with : (i : ℕ) (made : Event) (a c : Cluster) → IsMadeUp i (noted made a) c → IsMadeUp i (marked made a) (with_number made c)
made_up_with i (event.Ask agent asked draw) a c m = made_up_numbered i agent asked draw a c m
made_up_with i other a c m = m

there_then : (i : ℕ) (made : Event) (a c : Cluster) → SyncsThere i made a → IsMadeUp i (noted made a) c → SyncsThere i made (with_number made c)
there_then i made a c t m = let k = works_keep i (noted made a) c m.0 in there_numbered i made c (there_same i made a c k.world k.servers k.agents t)

pub agent_whole : (i : ℕ) (made : Event) (a b c d : Cluster) → is_agents made ≡ true → SyncsThere i made a → b ≡ noted made a → IsSynced i made b c → d ≡ shelved c → ClusterStep a made d true
agent_whole i made a b c d g t e (c₁, c₂, m, x, n) f =
    let m' : IsMadeUp i (noted made a) c₁ = subst (λ z. IsMadeUp i z c₁) e m in
    let t' = there_then i made a c₁ t m' in
    done i (with_number made c₁) c (made_up_with i made a c₁ m') (act c₂ c (syncs (agent_in made) true refl t'.0 t'.1 x) refl n (over (one_act made g))) f

pub agent_cut : (i : ℕ) (made : Event) (a b c d : Cluster) → is_agents made ≡ true → SyncsThere i made a → b ≡ noted made a → IsSyncedInPart i made Within b c → d ≡ shelved c → FindsNoMemory made a d
agent_cut i made a b c d g t e (inl p) f =
    let q : WorkedSome i (noted made a) c = subst (λ z. WorkedSome i z c) e p in
    inr (cut_early i q.0 c refl (agents_goes i made a g t) q.1 q.2 f)
agent_cut i made a b c d g t e (inr (inl (c₁, m, x))) f =
    let m' : IsMadeUp i (noted made a) c₁ = subst (λ z. IsMadeUp i z c₁) e m in
    let t' = there_then i made a c₁ t m' in
    inr (done i (with_number made c₁) c (made_up_with i made a c₁ m') (cut c (syncs (agent_in made) false refl t'.0 t'.1 x) none (inr (λ q. cc q))) f)
agent_cut i made a b c d g t e (inr (inr (c₁, c₂, m, x, p, n))) f =
    let m' : IsMadeUp i (noted made a) c₁ = subst (λ z. IsMadeUp i z c₁) e m in
    let t' = there_then i made a c₁ t m' in
    inr (done i (with_number made c₁) c (made_up_with i made a c₁ m') (cut c₂ (syncs (agent_in made) true refl t'.0 t'.1 x) p (inl n)) f)
