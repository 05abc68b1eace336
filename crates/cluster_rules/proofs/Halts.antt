-- Each mark of a halt is of a failure that its server's durable store counted.
use Rattle.std.proofs.Common.{◌≡◌, ◌≢◌, ℕ, suc, ◌+◌, ◌-◌, ◌^◌, ◌≤◌, ◌⊎◌, inl, inr, Bool, true, false, cond, not, min, List, [], ◌∷◌, take, Option, Some, None, refl, sym, ◌∙◌, ap, subst, arith}
use Rattle.std.specs.Prelude.{◌==◌, ◌&&◌}
use Rattle.cat_model.specs.declared.command.Command.{Command}
use Rattle.cat_model.specs.declared.request.AgentOp.{AgentOp}
use Rattle.cat_model.specs.declared.request.Asked.TheVariants.{Good}
use Rattle.cat_model.specs.declared.request.Request.TheVariants.{Agent as OfAgent}
use Rattle.cat_model.specs.declared.request.Event.{Event}
use Rattle.cat_model.specs.declared.request.Event.TheVariants as event
use Rattle.cat_model.specs.declared.reply.Mark.{Mark}
use Rattle.cat_model.specs.declared.reply.Mark.TheVariants as mark
use Rattle.raft_model.specs.declared.message.Sent.{Sent}
use Rattle.raft_model.specs.Log.{Log}
use Rattle.raft_model.specs.Node.{Node, Store}
use Rattle.raft_model.specs.Rules.{Input, done}
use Rattle.raft_model.specs.Step.{Outcome, Works, VoteFails, LogFails, Forgets, NodeStep, VoteSaved, LogStored, RestartWorks, RestartFails, arms}
use Rattle.raft_model.specs.World.{World, Acts as NodeActs, WorldStep, Restarts}
use Rattle.raft_model.proofs.Tests.{at_bool, eq_tells}
use Rattle.cluster_rules.specs.Replies.{Question}
use Rattle.cluster_rules.specs.Cluster.{Cluster, no_node, node_of, clock_of, agent_of, with_office, took_office, seated}
use Rattle.cluster_rules.specs.Agents.{Agent, change}
use Rattle.cluster_rules.specs.Offices.{office_from}
use Rattle.cluster_rules.specs.Proposals.{Proposals, none_left, breaks, enters, refuses, over_rows, with_ends, looked, Tends, idles, in_turn, cut_off, told, agent_did, adopted, Syncs, finds_none, plans, breaks_off, cut_first, did_own}
use Rattle.cluster_rules.specs.Due.{Work, Replies, Holds, Closes, Applies, did, Works as Made, none, work}
use Rattle.cluster_rules.specs.Requests.{entries_past, halts_past, joined, moved_with, moved, halted_now, Handles, unready, full, proposes, stops, delays, probes, reads, renews}
use Rattle.cluster_rules.specs.Step.{Acts, takes, ticks, arms as arms_it, restarts, handles, tends, syncs, Does, over, act, cut, cut_between, Passes, loses, replies, stays, leaderless, noted, marked, ClusterStep, done as whole_step, passed, cut_early}
use Rattle.cluster_rules.specs.Reached.{IsBegun, Move, Reached, at_start, by_event, by_taking, by_handing, by_settling, by_advancing}
use Rattle.cluster_rules.specs.Sound.{halts_in}
use Rattle.cluster_rules.proofs.Running.{done_up}
use Rattle.cluster_rules.proofs.Tools.{both, not_tells_not, eq_tells_not, at_item, item_same, item_other, is_node, is_place}

-- A step's store calls.
vote_rises : (old new : Node) (before after : Store) → VoteSaved old new before after → before.faults ≤ after.faults
vote_rises old new before after (inl (h, e)) = let k = ap (λ (s : Store). s.faults) e in omega arith
vote_rises old new before after (inr (h, c)) = c.faults

log_rises : (old new : Node) (before after : Store) → LogStored old new before after → before.faults ≤ after.faults
log_rises old new before after (inl (h, e)) = let k = ap (λ (s : Store). s.faults) e in omega arith
log_rises old new before after (inr (h, c)) = c.faults

faults_rise : (o : Outcome) (old : Node) (input : Input) (new : Node) (sent : List Sent) → NodeStep o old input new sent → min old.store.faults (2 ^ 64 - 1) ≤ new.store.faults
faults_rise Works old input new sent (between, v, g, e, s) = let k = vote_rises old (done old input).node old.store between v in let l = log_rises old (done old input).node between new.store g in omega arith
faults_rise VoteFails old input new sent (v, f, e, s) = let k = f.faults in omega arith
faults_rise LogFails old input new sent (between, v, g, f, e, s) = let k = vote_rises old (done old input).node old.store between v in let l = f.faults in omega arith
faults_rise Forgets old input new sent (v, c, g, e, s) = let k = c.faults in omega arith

fails_rise : (o : Outcome) (old : Node) (input : Input) (new : Node) (sent : List Sent) → NodeStep o old input new sent → old.halted ≡ false → new.halted ≡ true → min (old.store.faults + 1) (2 ^ 64 - 1) ≤ new.store.faults
fails_rise Works old input new sent (between, v, g, e, s) up down = absurd (let k = ap (λ (n : Node). n.halted) e in let l = done_up old input up in cc (k, l, down))
fails_rise VoteFails old input new sent (v, f, e, s) up down = f.faults
fails_rise LogFails old input new sent (between, v, g, f, e, s) up down = let k = vote_rises old (done old input).node old.store between v in let l = f.faults in omega arith
fails_rise Forgets old input new sent (v, c, g, e, s) up down = absurd (let k = ap (λ (n : Node). n.halted) e in cc (k, up, down))

abbrev pub FaultsCount : World → List Mark → Type 0
FaultsCount w past = (j : ℕ) → min (halts_in j past) (2 ^ 64 - 1) ≤ (node_of w j).store.faults

-- Server i becomes a node; its store failed or not.
becomes_counts : (w w' : World) (i : ℕ) (old new : Node) (past : List Mark) (failed : Bool) → node_of w i ≡ old → node_of w' i ≡ new → ((j : ℕ) → j ≢ i → node_of w' j ≡ node_of w j) →
    min old.store.faults (2 ^ 64 - 1) ≤ new.store.faults → (failed ≡ true → min (old.store.faults + 1) (2 ^ 64 - 1) ≤ new.store.faults) → FaultsCount w past → FaultsCount w' (halts_past i failed past)
becomes_counts w w' i old new past failed is is' others rise fails f = by failed refl
  where
    one : Bool → ℕ
    one b = cond b 1 0

    by : (b : Bool) → failed ≡ b → FaultsCount w' (halts_past i b past)
    by true e j = at_bool (λ b. (i == j) ≡ b → min (cond b 1 0 + halts_in j past) (2 ^ 64 - 1) ≤ (node_of w' j).store.faults) (i == j)
        (λ _ t. let z = eq_tells i j t in subst (λ y. min (1 + halts_in y past) (2 ^ 64 - 1) ≤ (node_of w' y).store.faults) z
        (let k = f i in let p = ap (λ (n : Node). n.store.faults) is in let q = ap (λ (n : Node). n.store.faults) is' in let r = fails e in omega arith))
        (λ _ t. let k = f j in let q = ap (λ (n : Node). n.store.faults) (others j (λ z. eq_tells_not i j t (sym z))) in omega arith) refl
    by false e j = at_bool (λ b. (i == j) ≡ b → min (halts_in j past) (2 ^ 64 - 1) ≤ (node_of w' j).store.faults) (i == j)
        (λ _ t. let z = eq_tells i j t in subst (λ y. min (halts_in y past) (2 ^ 64 - 1) ≤ (node_of w' y).store.faults) z
        (let k = f i in let p = ap (λ (n : Node). n.store.faults) is in let q = ap (λ (n : Node). n.store.faults) is' in omega arith))
        (λ _ t. let k = f j in let q = ap (λ (n : Node). n.store.faults) (others j (λ z. eq_tells_not i j t (sym z))) in omega arith) refl

acts_count : (w : World) (i : ℕ) (input : Input) (w' : World) (past : List Mark) → NodeActs w i input w' → FaultsCount w past → FaultsCount w' (halts_past i (halted_now w w' i) past)
acts_count w i input w' past a f =
    let p = is_place w i a.old a.server in
    let now : node_of w' i ≡ a.new = ap (λ (z : World). node_of z i) a.becomes ∙ item_same no_node w.nodes i a.new p.0 p.1 in
    let old : node_of w i ≡ a.old = is_node w i a.old a.server in
    becomes_counts w w' i a.old a.new past (halted_now w w' i) old now (λ j d. ap (λ (z : World). node_of z j) a.becomes ∙ item_other no_node w.nodes i j a.new d)
    (faults_rise a.outcome a.old input a.new a.sent a.step)
    (λ e. let b = both (not (node_of w i).halted) (node_of w' i).halted e in
    fails_rise a.outcome a.old input a.new a.sent a.step (ap (λ (n : Node). n.halted) (sym old) ∙ not_tells_not (node_of w i).halted b.0) (ap (λ (n : Node). n.halted) (sym now) ∙ b.1)) f

entries_halts : (j : ℕ) (es : Log) (past : List Mark) → halts_in j (entries_past es past) ≡ halts_in j past
entries_halts j [] past = refl
entries_halts j (e ∷ es) past = entries_halts j es (mark.Entry e ∷ past)

abbrev pub Counted : Cluster → Type 0
Counted c = FaultsCount c.world c.past

moved_counts : (failed : Bool) (i : ℕ) (w' : World) (c : Cluster) → FaultsCount w' (halts_past i failed c.past) → Counted (moved_with failed i w' c)
moved_counts failed i w' c f j = let e = entries_halts j (joined c.world w') (halts_past i failed c.past) in let k = f j in omega (arith, e, k)

moved_acts : (c : Cluster) (i : ℕ) (input : Input) (w' : World) → NodeActs c.world i input w' → Counted c → Counted (moved i w' c)
moved_acts c i input w' a f = moved_counts (halted_now c.world w' i) i w' c (acts_count c.world i input w' c.past a f)

-- a server with its node's values but the store's armed call
same_halted : (w w' : World) (i : ℕ) → (node_of w' i).halted ≡ (node_of w i).halted → halted_now w w' i ≡ false
same_halted w w' i e = ap (λ b. not (node_of w i).halted && b) e ∙ never (node_of w i).halted
  where
    never : (b : Bool) → (not b && b) ≡ false
    never true = refl
    never false = refl

moved_quiet : (c : Cluster) (i : ℕ) (w' : World) → ((j : ℕ) → (node_of w' j).halted ≡ (node_of c.world j).halted) → ((j : ℕ) → (node_of w' j).store.faults ≡ (node_of c.world j).store.faults) → Counted c → Counted (moved i w' c)
moved_quiet c i w' h s f = moved_counts (halted_now c.world w' i) i w' c
    (subst (λ b. FaultsCount w' (halts_past i b c.past)) (sym (same_halted c.world w' i (h i))) (λ j. let k = f j in let e = s j in omega arith))

restart_counts : (c : Cluster) (i : ℕ) (w' : World) → WorldStep c.world (Restarts i) w' → Counted c → Counted (moved_with (node_of w' i).halted i w' c)
restart_counts c i w' (old, new, at, r, w) f =
    let p = is_place c.world i old at in
    let now : node_of w' i ≡ new = ap (λ (z : World). node_of z i) w ∙ item_same no_node c.world.nodes i new p.0 p.1 in
    moved_counts (node_of w' i).halted i w' c (becomes_counts c.world w' i old new c.past (node_of w' i).halted (is_node c.world i old at) now (λ j d. ap (λ (z : World). node_of z j) w ∙ item_other no_node c.world.nodes i j new d) (rise r) (λ e. fails r (ap (λ (n : Node). n.halted) (sym now) ∙ e)) f)
  where
    rise : RestartWorks old new ⊎ RestartFails old new → min old.store.faults (2 ^ 64 - 1) ≤ new.store.faults
    rise (inl (kept, c, told, e)) = let k = c.faults in omega arith
    rise (inr (c, e)) = let k = c.faults in omega arith

    fails : RestartWorks old new ⊎ RestartFails old new → new.halted ≡ true → min (old.store.faults + 1) (2 ^ 64 - 1) ≤ new.store.faults
    fails (inl (kept, c, told, e)) down = absurd (let k = ap (λ (n : Node). n.halted) e in cc (k, down))
    fails (inr (c, e)) down = c.faults

did_counts : (i : ℕ) (w : Work) (c : Cluster) → Counted c → Counted (did i w c)
unfolding did
did_counts i (Replies q kind) c f = f
did_counts i (Holds h) c f = f
did_counts i (Closes number event) c f = f
did_counts i Applies c f = f

works_count : (i : ℕ) (c c' : Cluster) → Made i c c' → Counted c → Counted c'
works_count i c c' none f = f
works_count i c c' (work w e more) f = works_count i (did i w c) c' more (did_counts i w c f)

handles_count : (c : Cluster) (i : ℕ) (q : Question) (c' : Cluster) → Handles c i q c' → Counted c → Counted c'
handles_count c i q c' (unready st r e) f = subst Counted (sym e) f
handles_count c i q c' (full command w' ask free go room b e) f = subst Counted (sym e) (moved_acts c i _ w' b f)
handles_count c i q c' (proposes command w' ask free go room b up e) f = subst Counted (sym e) (moved_acts c i _ w' b f)
handles_count c i q c' (stops command w' ask free go room b down e) f = subst Counted (sym e) (moved_acts c i _ w' b f)
handles_count c i q c' (delays command key ask go d e) f = subst Counted (sym e) f
handles_count c i q c' (renews id ask go e) f = subst Counted (sym e) f
handles_count c i q c' (probes wait w' look go b e) f = subst Counted (sym e) (moved_acts c i _ w' b f)
handles_count c i q c' (reads mode wait look d go e) f = subst Counted (sym e) f

seated_counts : (w : World) (i : ℕ) (c : Cluster) → Counted c → Counted (seated w i c)
seated_counts w i c f = at_bool (λ b. Counted (cond b (with_office i (office_from (clock_of c.world i)) c) c)) (took_office w c.world i) (λ _. f) (λ _. f)

proposals_count : (i : ℕ) (commands : List Command) (c : Cluster) (n : ℕ) (c' : Cluster) (whole : Bool) → Proposals i commands c n c' whole → Counted c → Counted c'
proposals_count i commands c n c' whole none_left f = f
proposals_count i commands c n c' whole breaks f = f
proposals_count i (command ∷ commands) c n c' whole (enters {n = m} w' lead room a up more) f = proposals_count i commands (moved i w' c) m c' whole more (moved_acts c i _ w' a f)
proposals_count i (command ∷ commands) c n c' whole (refuses w' lead a why) f = moved_acts c i _ w' a f

tends_count : (i : ℕ) (c c' : Cluster) (whole : Bool) → Tends i c c' whole → Counted c → Counted c'
tends_count i c c' whole (idles lead e) f = subst Counted (sym e) f
tends_count i c c' whole (in_turn n m c₁ c₂ lead p r e) f = subst Counted (sym e) (proposals_count i _ (looked i (with_ends i (take n (over_rows c i)) c₁)) m c₂ whole r (proposals_count i _ c n c₁ true p f))
tends_count i c c' whole (cut_off n c₁ lead p e) f = subst Counted (sym e) (proposals_count i _ c n c₁ false p f)

told_counts : (c : Cluster) (q : Question) (op : AgentOp) (g : Option Agent) → Counted c → Counted (told q op g c)
told_counts c q op None f = f
told_counts c q op (Some g) f = f

agent_counts : (c : Cluster) (made : Event) → Counted c → Counted (agent_did made c)
agent_counts c (event.AgentTick a ms) f = f
agent_counts c (event.Ask a (Good (OfAgent op)) draw) f = told_counts c (record { number = c.asked; agent = a; asked = Good (OfAgent op); draw = draw }) op (change a op (agent_of c a)) f
agent_counts c other f = f

syncs_count : (i a : ℕ) (own : Bool) (c c' : Cluster) (whole : Bool) → Syncs i a own c c' whole → Counted c → Counted c'
syncs_count i a own c c' whole (finds_none r e) f = subst Counted (sym e) f
syncs_count i a own c c' whole (plans n c₁ r p e) f = subst Counted (sym e) (proposals_count i _ (adopted a i c) n c₁ true p f)
syncs_count i a own c c' whole (breaks_off n some r p) f = proposals_count i _ (adopted a i c) n c' false p f
syncs_count i a own c c' whole (cut_first mine r e) f = subst Counted (sym e) f

cluster_acts : (n : ℕ) (c : Cluster) (i : ℕ) (made : Event) (c' : Cluster) → Acts n c i made c' → Counted c → Counted c'
cluster_acts n c i made c' (takes input w' z is a e) f = subst Counted (sym e) (seated_counts c.world i (moved i w' c) (moved_acts c i input w' a f))
cluster_acts n c i made c' (ticks ms w' z is (old, at, w) e) f = subst Counted (sym e)
    (moved_quiet c i w' (λ j. ap (λ (z : World). (node_of z j).halted) w) (λ j. ap (λ (z : World). (node_of z j).store.faults) w) f)
cluster_acts n c i made c' (arms_it nth w' z is (old, at, w) e) f = subst Counted (sym e)
    (moved_quiet c i w'
    (λ j. ap (λ (z : World). (node_of z j).halted) w ∙ at_item (λ (n : Node). n.halted ≡ (node_of c.world j).halted) no_node c.world.nodes i (arms old nth) j (λ q. ap (λ (n : Node). n.halted) (sym (ap (node_of c.world) q ∙ is_node c.world i old at))) refl)
    (λ j. ap (λ (z : World). (node_of z j).store.faults) w ∙ at_item (λ (n : Node). n.store.faults ≡ (node_of c.world j).store.faults) no_node c.world.nodes i (arms old nth) j (λ q. ap (λ (n : Node). n.store.faults) (sym (ap (node_of c.world) q ∙ is_node c.world i old at))) refl) f)
cluster_acts n c i made c' (restarts w' z is st e) f = subst Counted (sym e) (restart_counts c i w' st f)
cluster_acts n c i made c' (handles agent asked draw z is goes h) f = handles_count c i _ c' h f
cluster_acts n c i made c' (tends ms whole z is t) f = tends_count i c c' whole t f
cluster_acts n c i made c' (syncs a whole z is goes y) f = syncs_count i a (did_own made) (agent_did made c) c' whole y (agent_counts c made f)

does_count : (i : ℕ) (made : Event) (n : ℕ) (c c' : Cluster) (whole : Bool) → Does i made n c c' whole → Counted c → Counted c'
does_count i made n c c' whole (over e) f = f
does_count i made n c c' whole (act c₁ c₂ a r m more) f = does_count i made (suc n) c₂ c' whole more (works_count i c₁ c₂ m.0 (cluster_acts n c i made c₁ a f))
does_count i made n c c' whole (cut c₁ a m short) f = works_count i c₁ c' m (cluster_acts n c i made c₁ a f)
does_count i made n c c' whole (cut_between l k) f = f

marked_counts : (made : Event) (c : Cluster) → Counted c → Counted (marked made c)
marked_counts (event.Ask agent asked draw) c f = f
marked_counts (event.Timeout i) c f = f
marked_counts (event.Beat i) c f = f
marked_counts (event.Tick i ms) c f = f
marked_counts (event.Deliver k) c f = f
marked_counts (event.Drop k) c f = f
marked_counts (event.Restart i) c f = f
marked_counts (event.FailKeep i n) c f = f
marked_counts (event.Sync a) c f = f
marked_counts (event.AgentTick a ms) c f = f

passes_count : (c : Cluster) (made : Event) (c' : Cluster) → Passes c made c' → Counted c → Counted c'
passes_count c made c' (loses k w' is (p, n, w) e) f = subst Counted (sym e) (λ j. let k = f j in let q = ap (λ (z : World). (node_of z j).store.faults) w in omega arith)
passes_count c made c' (replies agent asked draw why is goes e) f = subst Counted (sym e) f
passes_count c made c' (stays own free e) f = subst Counted (sym e) (agent_counts c made f)
passes_count c made c' (leaderless a why own is goes e) f = subst Counted (sym e) (agent_counts c made f)

step_counts : (c c' : Cluster) (made : Event) (whole : Bool) → ClusterStep c made c' whole → Counted c → Counted c'
step_counts c c' made whole (whole_step i c₁ c₂ m d e) f = subst Counted (sym e) (does_count i made 0 c₁ c₂ whole d (works_count i (marked made c) c₁ m.0 (marked_counts made c f)))
step_counts c c' made whole (passed c₁ w p e) f = subst Counted (sym e) (passes_count (marked made c) made c₁ p (marked_counts made c f))
step_counts c c' made whole (cut_early i w c₁ short for d more e) f = subst Counted (sym e) (works_count i (noted made c) c₁ (work w d more) f)

pub halts_counted : (stores : List Store) (start : Cluster) → IsBegun stores start → (whole : Bool) (moves : List Move) (c : Cluster) → Reached start whole moves c → Counted c
halts_counted stores start i whole moves c at_start = subst Counted (sym i.is) (λ j. omega arith)
halts_counted stores start i whole moves c (by_event {whole = w} {moves = ms} {c = b} made all r fits s) = step_counts b c made all s (halts_counted stores start i w ms b r)
halts_counted stores start i whole moves c (by_taking {whole = w} {moves = ms} {c = b} number out before after r is e) = halts_counted stores start i w ms b r
halts_counted stores start i whole moves c (by_handing {whole = w} {moves = ms} {c = b} out before after r is e) = halts_counted stores start i w ms b r
halts_counted stores start i whole moves c (by_settling {whole = w} {moves = ms} {c = b} pairs all r ends) = halts_counted stores start i w ms b r
halts_counted stores start i whole moves c (by_advancing {whole = w} {moves = ms} {c = b} time made r ends) = halts_counted stores start i w ms b r
