-- Each step keeps each request in exactly one place, and so the cluster sound.
use Rattle.std.proofs.Common.{◌≡◌, ℕ, suc, ◌<◌, Bool, true, false, cond, List, [], ◌∷◌, length, take, refl, sym, ◌∙◌, ap, subst, arith, Option, Some, None}
use Rattle.cat_model.specs.declared.command.Command.{Command}
use Rattle.cat_model.specs.declared.request.Asked.TheVariants.{Good}
use Rattle.cat_model.specs.declared.request.Event.{Event}
use Rattle.cat_model.specs.declared.request.Event.TheVariants as event
use Rattle.cat_model.specs.declared.request.Request.TheVariants.{Agent as OfAgent}
use Rattle.cat_model.specs.declared.reply.Kind.{Kind}
use Rattle.cat_model.specs.declared.reply.Kind.TheVariants.{Refused}
use Rattle.raft_model.specs.Log.{Log}
use Rattle.raft_model.proofs.Tests.{at_bool}
use Rattle.raft_model.specs.Rules.{Input}
use Rattle.raft_model.specs.World.{World}
use Rattle.cluster_rules.specs.Replies.{Question}
use Rattle.cluster_rules.specs.Cluster.{Stand, Start, Looked, Cluster, node_of, applied_of, clock_of, agent_of, with_office, took_office, seated}
use Rattle.cluster_rules.specs.Agents.{Agent, change}
use Rattle.cluster_rules.specs.Offices.{office_from}
use Rattle.cluster_rules.specs.Proposals.{Proposals, none_left, breaks, enters, refuses, over_rows, with_ends, looked, Tends, idles, in_turn, cut_off, kind_told, with_change, told, agent_did, is_agents, sync_of, synced, adopted, Syncs, finds_none, plans, breaks_off, cut_first, did_own}
use Rattle.cluster_rules.specs.Due.{answered, work}
use Rattle.cluster_rules.specs.Requests.{moved_with, moved, halted_now, holding, Handles, unready, full, proposes, stops, delays, probes, reads, renews}
use Rattle.cluster_rules.specs.Step.{begun_anew, input_of, Acts, takes, ticks, arms, restarts, handles, tends, syncs, acts_of, Does, over, act, cut, cut_between, Passes, loses, replies, stays, leaderless, noted, marked, shelved, ClusterStep, done, passed, cut_early}
use Rattle.cluster_rules.specs.Sound.{NoneLost, found, Sound}
use Rattle.cluster_rules.proofs.Counting.{works_keep, made_up_keep, works_asked, moved_keeps, restart_keeps, holding_places, answered_places, synced_keeps, outs_times}
use Rattle.cluster_rules.proofs.Steps.{step_sound}

-- how many requests were asked, the event's own counted or not
abbrev pub AskedIs : Event → ℕ → Cluster → Type 0
AskedIs (event.Ask agent asked draw) n c = c.asked ≡ suc n
AskedIs other n c = c.asked ≡ n

-- the first n are in their places
abbrev pub Places : Event → ℕ → Cluster → Type 0
Places made n c = AskedIs made n c × NoneLost n c

no_input : (a : Input) → None ≡ Some a → ⊥
no_input a p = cc p

-- an event whose server's node takes an input is no request
input_asked : (w : World) (i : ℕ) (made : Event) (input : Input) (n : ℕ) (c : Cluster) → input_of w i made ≡ Some input → AskedIs made n c → c.asked ≡ n
input_asked w i (event.Timeout s) input n c e a = a
input_asked w i (event.Beat s) input n c e a = a
input_asked w i (event.Tick s ms) input n c e a = a
input_asked w i (event.Deliver k) input n c e a = a
input_asked w i (event.Drop k) input n c e a = a
input_asked w i (event.Restart s) input n c e a = a
input_asked w i (event.FailKeep s m) input n c e a = a
input_asked w i (event.Ask agent asked draw) input n c e a = absurd (no_input input e)
input_asked w i (event.Sync agent) input n c e a = a
input_asked w i (event.AgentTick agent ms) input n c e a = a

-- the same requests in the same places
keeps_all : (n : ℕ) (c c' : Cluster) → c.asked ≡ n → c'.asked ≡ c.asked → NoneLost n c → ((k : ℕ) → found k c' ≡ found k c) → NoneLost c'.asked c'
keeps_all n c c' e a l same = subst (λ z. NoneLost z c') (sym (a ∙ e)) (λ k. same k ∙ l k)

by_answer : (n : ℕ) (c : Cluster) (q : Question) (kind : Kind) (log : Log) (c' : Cluster) → q.number ≡ suc n → c.asked ≡ suc n → NoneLost n c → c' ≡ answered q kind false 0 log c → NoneLost c'.asked c'
by_answer n c q kind log c' e a l is = subst (λ (z : Cluster). NoneLost z.asked z) (sym is) (subst (λ z. NoneLost z (answered q kind false 0 log c)) (sym a) (answered_places n c q kind log e l))

by_holding : (n : ℕ) (c : Cluster) (q : Question) (i : ℕ) (stand : Stand) (start : Start) (c' : Cluster) → q.number ≡ suc n → c.asked ≡ suc n → NoneLost n c → c' ≡ holding q i stand start c → NoneLost c'.asked c'
by_holding n c q i stand start c' e a l is = subst (λ (z : Cluster). NoneLost z.asked z) (sym is) (subst (λ z. NoneLost z (holding q i stand start c)) (sym a) (holding_places n c q i stand start e l))

moved_places : (n : ℕ) (c : Cluster) (i : ℕ) (w' : World) → NoneLost n c → NoneLost n (moved i w' c)
moved_places n c i w' l k = moved_keeps (halted_now c.world w' i) i w' c k ∙ l k

handles_places : (n : ℕ) (c : Cluster) (i : ℕ) (q : Question) → q.number ≡ suc n → c.asked ≡ suc n → NoneLost n c → (c' : Cluster) → Handles c i q c' → NoneLost c'.asked c'
handles_places n c i q e a l c' (unready st r is) = by_answer n c q _ [] c' e a l is
handles_places n c i q e a l c' (full command w' ask free go room b is) = by_answer n (moved i w' c) q _ [] c' e a (moved_places n c i w' l) is
handles_places n c i q e a l c' (stops command w' ask free go room b down is) = by_answer n (moved i w' c) q _ [] c' e a (moved_places n c i w' l) is
handles_places n c i q e a l c' (proposes command w' ask free go room b up is) = by_holding n (moved i w' c) q i _ _ c' e a (moved_places n c i w' l) is
handles_places n c i q e a l c' (delays command key ask go d is) = by_answer n c q _ [] c' e a l is
handles_places n c i q e a l c' (renews id ask go is) = by_answer n (with_office i _ (record c { starts = Looked q.number i (length (applied_of c i)) ∷ c.starts })) q _ (applied_of c i) c' e a l is
handles_places n c i q e a l c' (probes wait w' look go b is) = by_holding n (moved i w' c) q i _ _ c' e a (moved_places n c i w' l) is
handles_places n c i q e a l c' (reads mode wait look d go is) = by_holding n c q i _ _ c' e a l is

-- The same once a time in office begins, and through proposals of no request.
abbrev AreFound : Cluster → Type 0
AreFound c = NoneLost c.asked c

seated_places : (w : World) (i : ℕ) (c : Cluster) → AreFound c → AreFound (seated w i c)
seated_places w i c l = at_bool (λ b. AreFound (cond b (with_office i (office_from (clock_of c.world i)) c) c)) (took_office w c.world i) (λ _. l) (λ _. l)

proposals_places : (i : ℕ) (commands : List Command) (c : Cluster) (n : ℕ) (c' : Cluster) (whole : Bool) → Proposals i commands c n c' whole → AreFound c → AreFound c'
proposals_places i commands c n c' whole none_left l = l
proposals_places i commands c n c' whole breaks l = l
proposals_places i (command ∷ commands) c n c' whole (enters {n = m} w' lead room a up more) l = proposals_places i commands (moved i w' c) m c' whole more (moved_places c.asked c i w' l)
proposals_places i (command ∷ commands) c n c' whole (refuses w' lead a why) l = moved_places c.asked c i w' l

tends_places : (i : ℕ) (c c' : Cluster) (whole : Bool) → Tends i c c' whole → AreFound c → AreFound c'
tends_places i c c' whole (idles lead e) l = subst AreFound (sym e) l
tends_places i c c' whole (in_turn n m c₁ c₂ lead p r e) l = subst AreFound (sym e) (proposals_places i _ (looked i (with_ends i (take n (over_rows c i)) c₁)) m c₂ whole r (proposals_places i _ c n c₁ true p l))
tends_places i c c' whole (cut_off n c₁ lead p e) l = subst AreFound (sym e) (proposals_places i _ c n c₁ false p l)

-- An agent's own part.
sync_is : (c : Cluster) (made : Event) (a : ℕ) → sync_of c made ≡ Some a → is_agents made ≡ true
sync_is c (event.AgentTick b ms) a e = refl
sync_is c (event.Ask b (Good (OfAgent op)) draw) a e = refl
sync_is c (event.Sync b) a e = refl
sync_is c other a e = absurd (cc e)

change_places : (n : ℕ) (c : Cluster) (a : ℕ) (g : Option Agent) → NoneLost n c → NoneLost n (with_change a g c)
change_places n c a None l = l
change_places n c a (Some g) l = l

change_asked : (c : Cluster) (a : ℕ) (g : Option Agent) → (with_change a g c).asked ≡ c.asked
change_asked c a None = refl
change_asked c a (Some g) = refl

agent_places : (m : ℕ) (c : Cluster) (made : Event) → is_agents made ≡ true → Places made m c → AreFound (agent_did made c)
agent_places m c (event.AgentTick a ms) is p = subst (λ z. NoneLost z c) (sym p.0) p.1
agent_places m c (event.Sync a) is p = subst (λ z. NoneLost z c) (sym p.0) p.1
agent_places m c (event.Ask a (Good (OfAgent op)) draw) is p =
    let q : Question = record { number = c.asked; agent = a; asked = Good (OfAgent op); draw = draw } in
    let g = change a op (agent_of c a) in
    by_answer m (with_change a g c) q (kind_told a op g) [] (told q op g c) p.0 (change_asked c a g ∙ p.0) (change_places m c a g p.1) refl
agent_places m c other is p = absurd (cc is)

synced_places : (a : ℕ) (count : Option ℕ) (c : Cluster) → AreFound c → AreFound (synced a count c)
synced_places a count c l k = synced_keeps a count c k ∙ l k

syncs_places : (i a : ℕ) (own : Bool) (c c' : Cluster) (whole : Bool) → Syncs i a own c c' whole → AreFound c → AreFound c'
syncs_places i a own c c' whole (finds_none r e) l = subst AreFound (sym e) (synced_places a None c l)
syncs_places i a own c c' whole (plans n c₁ r p e) l = subst AreFound (sym e) (synced_places a (Some n) c₁ (proposals_places i _ (adopted a i c) n c₁ true p l))
syncs_places i a own c c' whole (breaks_off n some r p) l = proposals_places i _ (adopted a i c) n c' false p l
syncs_places i a own c c' whole (cut_first mine r e) l = subst AreFound (sym e) l

acts_places : (m n : ℕ) (c : Cluster) (i : ℕ) (made : Event) → (n ≡ 0 → Places made m c) → (0 < n → AreFound c) → (c' : Cluster) → Acts n c i made c' → AreFound c'
acts_places m n c i made p l c' (takes input w' z is a e) =
    subst AreFound (sym e) (seated_places c.world i (moved i w' c) (keeps_all m c (moved i w' c) (input_asked c.world i made input m c is (p z).0) refl (p z).1 (moved_keeps (halted_now c.world w' i) i w' c)))
acts_places m n c i made p l c' (ticks ms w' z is st e) =
    subst AreFound (sym e) (keeps_all m c (moved i w' c) (subst (λ (x : Event). AskedIs x m c) is (p z).0) refl (p z).1 (moved_keeps (halted_now c.world w' i) i w' c))
acts_places m n c i made p l c' (arms nth w' z is st e) =
    subst AreFound (sym e) (keeps_all m c (moved i w' c) (subst (λ (x : Event). AskedIs x m c) is (p z).0) refl (p z).1 (moved_keeps (halted_now c.world w' i) i w' c))
acts_places m n c i made p l c' (restarts w' z is st e) =
    subst AreFound (sym e) (keeps_all m c (begun_anew i (moved_with (node_of w' i).halted i w' c)) (subst (λ (x : Event). AskedIs x m c) is (p z).0) refl (p z).1 (restart_keeps (node_of w' i).halted i w' c))
acts_places m n c i made p l c' (handles agent asked draw z is goes h) =
    let a : c.asked ≡ suc m = subst (λ (x : Event). AskedIs x m c) is (p z).0 in
    handles_places m c i (record { number = c.asked; agent = agent; asked = asked; draw = draw }) a a (p z).1 c' h
acts_places m n c i made p l c' (tends ms whole z is t) = tends_places i c c' whole t (l (omega (arith, z)))
acts_places m n c i made p l c' (syncs a whole z is goes y) = syncs_places i a (did_own made) (agent_did made c) c' whole y (agent_places m c made (sync_is c made a is) (p z))

passes_places : (m : ℕ) (c : Cluster) (made : Event) → Places made m c → (c' : Cluster) → Passes c made c' → NoneLost c'.asked c'
passes_places m c made p c' (loses k w' is st e) =
    subst (λ (z : Cluster). NoneLost z.asked z) (sym e) (keeps_all m c (record c { world = w' }) (subst (λ (x : Event). AskedIs x m c) is p.0) refl p.1 (λ k. refl))
passes_places m c made p c' (replies agent asked draw why is goes e) =
    let a : c.asked ≡ suc m = subst (λ (x : Event). AskedIs x m c) is p.0 in
    by_answer m c (record { number = c.asked; agent = agent; asked = asked; draw = draw }) (Refused why) [] c' a a p.1 e
passes_places m c made p c' (stays own free e) = subst AreFound (sym e) (agent_places m c made own p)
passes_places m c made p c' (leaderless a why own is goes e) = subst AreFound (sym e) (synced_places a None (agent_did made c) (agent_places m c made own p))

asked_same : (made : Event) (m : ℕ) (c c' : Cluster) → c'.asked ≡ c.asked → AskedIs made m c → AskedIs made m c'
asked_same (event.Ask agent asked draw) m c c' e a = e ∙ a
asked_same (event.Timeout s) m c c' e a = e ∙ a
asked_same (event.Beat s) m c c' e a = e ∙ a
asked_same (event.Tick s ms) m c c' e a = e ∙ a
asked_same (event.Deliver k) m c c' e a = e ∙ a
asked_same (event.Drop k) m c c' e a = e ∙ a
asked_same (event.Restart s) m c c' e a = e ∙ a
asked_same (event.FailKeep s n) m c c' e a = e ∙ a
asked_same (event.Sync agent) m c c' e a = e ∙ a
asked_same (event.AgentTick agent ms) m c c' e a = e ∙ a

marked_places : (made : Event) (c : Cluster) → NoneLost c.asked c → Places made c.asked (marked made c)
marked_places (event.Ask agent asked draw) c l = (refl, l)
marked_places (event.Timeout s) c l = (refl, l)
marked_places (event.Beat s) c l = (refl, l)
marked_places (event.Tick s ms) c l = (refl, l)
marked_places (event.Deliver k) c l = (refl, l)
marked_places (event.Drop k) c l = (refl, l)
marked_places (event.Restart s) c l = (refl, l)
marked_places (event.FailKeep s n) c l = (refl, l)
marked_places (event.Sync agent) c l = (refl, l)
marked_places (event.AgentTick agent ms) c l = (refl, l)

-- each event has an act
some_acts : (made : Event) → 0 < acts_of made
some_acts (event.Tick s ms) = omega arith
some_acts other = omega arith

does_places : (i : ℕ) (made : Event) (m n : ℕ) (c c' : Cluster) (whole : Bool) → Does i made n c c' whole → (n ≡ 0 → Places made m c) → (0 < n → NoneLost c.asked c) → NoneLost c'.asked c'
does_places i made m n c c' whole (over e) before after = after (let k = some_acts made in omega (arith, e, k))
does_places i made m n c c' whole (act c₁ c₂ a r w more) before after =
    let l = made_up_keep i c₁ c₂ w.0 (acts_places m n c i made before after c₁ a) in
    does_places i made m (suc n) c₂ c' whole more (λ z. absurd (omega arith)) (λ _. l)
does_places i made m n c c' whole (cut c₁ a w short) before after = made_up_keep i c₁ c' w (acts_places m n c i made before after c₁ a)
does_places i made m n c c' whole (cut_between l k) before after = after l

shelved_places : (c : Cluster) → NoneLost c.asked c → NoneLost c.asked (shelved c)
shelved_places c l k = let e = outs_times k c.tray c.fresh in let f = l k in omega (arith, e, f)

pub step_places : (c c' : Cluster) (made : Event) (whole : Bool) → ClusterStep c made c' whole → NoneLost c.asked c → NoneLost c'.asked c'
step_places c c' made whole (done i c₁ c₂ m d e) l =
    let p = marked_places made c l in
    let a = asked_same made c.asked (marked made c) c₁ (works_asked i (marked made c) c₁ m.0) p.0 in
    subst (λ (z : Cluster). NoneLost z.asked z) (sym e) (shelved_places c₂ (does_places i made c.asked 0 c₁ c₂ whole d (λ _. (a, works_keep c.asked i (marked made c) c₁ m.0 p.1)) (λ z. absurd (omega arith))))
step_places c c' made whole (passed c₁ w p e) l =
    subst (λ (z : Cluster). NoneLost z.asked z) (sym e) (shelved_places c₁ (passes_places c.asked (marked made c) made (marked_places made c l) c₁ p))
step_places c c' made whole (cut_early i w c₁ short for d more e) l =
    subst (λ (z : Cluster). NoneLost z.asked z) (sym e) (shelved_places c₁ (made_up_keep i (noted made c) c₁ (work w d more) l))

pub step_shelves : (c c' : Cluster) (made : Event) (whole : Bool) → ClusterStep c made c' whole → c'.fresh ≡ []
step_shelves c c' made whole (done i c₁ c₂ m d e) = ap (λ (z : Cluster). z.fresh) e
step_shelves c c' made whole (passed c₁ w p e) = ap (λ (z : Cluster). z.fresh) e
step_shelves c c' made whole (cut_early i w c₁ short for d more e) = ap (λ (z : Cluster). z.fresh) e

-- Each step, whole or cut short, keeps a cluster sound.
pub step_keeps : (c c' : Cluster) (made : Event) (whole : Bool) → ClusterStep c made c' whole → Sound c → Sound c'
step_keeps c c' made whole st s = record { parts = step_sound c c' made whole st s.parts; none_lost = step_places c c' made whole st s.none_lost; shelved = step_shelves c c' made whole st }
