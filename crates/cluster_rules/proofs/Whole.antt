-- A run of whole events leaves no server behind.
use Rattle.std.proofs.Common.{◌≡◌, ◌≢◌, ℕ, zero, suc, ◌<◌, inl, inr, Bool, true, false, cond, List, [], ◌∷◌, ◌++◌, length, map, take, refl, sym, ◌∙◌, ap, subst, arith, Option, Some, None}
use Rattle.std.specs.Prelude.{◌==◌, ◌&&◌, nat_lt}
use Rattle.std.specs.List.{AllByRecursion as Each}
use Rattle.std.proofs.lemmas.Bool.Decides.{nat_tests}
use Rattle.cat_model.specs.declared.command.Command.{Command}
use Rattle.cat_model.specs.declared.request.AgentOp.{AgentOp}
use Rattle.cat_model.specs.declared.request.Asked.TheVariants.{Good}
use Rattle.cat_model.specs.declared.request.Request.TheVariants.{Agent as OfAgent}
use Rattle.cat_model.specs.declared.reply.Kind.{Kind}
use Rattle.raft_model.specs.Log.{Log}
use Rattle.cat_model.specs.declared.request.Event.{Event}
use Rattle.cat_model.specs.declared.request.Event.TheVariants as event
use Rattle.raft_model.specs.Node.{Node, Store, of_server, set_server}
use Rattle.raft_model.specs.Rules.{Input}
use Rattle.raft_model.specs.World.{World, Acts as NodeActs, StartAll}
use Rattle.raft_model.proofs.Tests.{at_bool, eq_tells}
use Rattle.cluster_rules.specs.Replies.{Question}
use Rattle.cluster_rules.specs.Cluster.{Stand, Start, Looked, Ended, Pending, Cluster, no_server, no_node, node_of, applied_of, clock_of, agent_of, office_of, with_office, took_office, seated, started}
use Rattle.cluster_rules.specs.Agents.{Agent, change}
use Rattle.cluster_rules.specs.Offices.{Office, office_from, renew_in}
use Rattle.cluster_rules.specs.Proposals.{Proposals, none_left, breaks, enters, refuses, over_rows, with_ends, looked, Tends, idles, in_turn, cut_off, with_agent, told, agent_did, synced, adopted, Syncs, finds_none, plans, breaks_off, cut_first, did_own}
use Rattle.cluster_rules.specs.Due.{Applies, or_work, answered, due, waits, waiting}
use Rattle.cluster_rules.specs.Requests.{moved_with, moved, halted_now, session_of, holding, Handles, unready, full, proposes, stops, delays, probes, reads, renews}
use Rattle.cluster_rules.specs.Step.{ended, Acts, takes, ticks, arms, restarts, handles, tends, syncs, Does, over, act, cut, cut_between, Passes, loses, replies, stays, leaderless, marked, ClusterStep, done, passed, cut_early}
use Rattle.cluster_rules.specs.Reached.{IsStart, Move, Reached, at_start, by_event, by_taking, by_handing, by_settling, by_advancing}
use Rattle.cluster_rules.specs.Sound.{IsAmong, IsSoundAtWork, Sound}
use Rattle.cluster_rules.proofs.Asking.{AskIsNew}
use Rattle.cluster_rules.proofs.Others.{SameAt, same_on, same_due, works_other, waiting_without, all_there, not_waiting, waiting_cons, waits_first}
use Rattle.cluster_rules.proofs.Reached.{run_sound}
use Rattle.cluster_rules.proofs.Steps.{Facts, acts_sound, all_applied, marked_sound, facts_marked, facts_worked}
use Rattle.cluster_rules.proofs.Due.{works_sound}
use Rattle.cluster_rules.proofs.Tools.{eq_tells_not, set_other, item_other, each_map, each_append}
use Rattle.cluster_rules.proofs.Works.{each_kept}

abbrev pub NoneBehind : Cluster → Type 0
NoneBehind c = (j : ℕ) → due j c ≡ None

same_itself : (j : ℕ) (c : Cluster) → SameAt j c c
same_itself j c = record { node = refl; applied = refl; clock = refl; waits_same = refl; held = all_there j c.held }

-- A step of the world at server i.
moved_other : (j i : ℕ) (failed : Bool) (w' : World) (c : Cluster) → node_of w' j ≡ node_of c.world j → clock_of w' j ≡ clock_of c.world j → SameAt j c (moved_with failed i w' c)
moved_other j i failed w' c n k = record { node = n; applied = refl; clock = k; waits_same = refl; held = all_there j c.held }

acts_node : (j i : ℕ) → j ≢ i → (w : World) (input : Input) (w' : World) → NodeActs w i input w' → (node_of w' j ≡ node_of w j) × (clock_of w' j ≡ clock_of w j)
acts_node j i d w input w' a = (ap (λ (z : World). node_of z j) a.becomes ∙ item_other no_node w.nodes i j a.new d, ap (λ (z : World). clock_of z j) a.becomes)

clock_other : (clocks : List ℕ) (i j x : ℕ) → j ≢ i → of_server (set_server clocks i x) j ≡ of_server clocks j
clock_other clocks zero j x d = refl
clock_other clocks (suc i) zero x d = refl
clock_other clocks (suc i) (suc j) x d = set_other clocks i j x 0 (λ e. d (ap suc e))

-- one more request at another server, or one that nobody holds
waiting_append : (j i : ℕ) → j ≢ i → (h : Pending) → h.server ≡ i → (hs : List Pending) → waiting j (hs ++ h ∷ []) ≡ waiting j hs
waiting_append j i d h at [] = waiting_cons j h [] ∙ ap (λ b. waits_first b 0) (not_waiting j i d h at)
waiting_append j i d h at (g ∷ hs) = waiting_cons j g (hs ++ h ∷ []) ∙ ap (waits_first (waits j g)) (waiting_append j i d h at hs) ∙ sym (waiting_cons j g hs)

among_more : (h : Pending) (hs gs : List Pending) → IsAmong h hs → IsAmong h (hs ++ gs)
among_more h [] gs m = absurd m
among_more h (x ∷ hs) gs (inl e) = inl e
among_more h (x ∷ hs) gs (inr m) = inr (among_more h hs gs m)

holding_other : (j i : ℕ) → j ≢ i → (q : Question) (stand : Stand) (start : Start) (c : Cluster) → SameAt j c (holding q i stand start c)
holding_other j i d q stand start c = record {
  node = refl;
  applied = refl;
  clock = refl;
  waits_same = waiting_append j i d (record { question = q; server = i; stand = stand }) refl c.held;
  held = each_append (λ (g : Pending). g.server ≡ j → IsAmong g c.held) c.held (record { question = q; server = i; stand = stand } ∷ []) (all_there j c.held) ((λ e. absurd (d (sym e))), tt);
}

-- a request above all that are held is answered
answered_same : (j : ℕ) (q : Question) (kind : Kind) (log : Log) (c : Cluster) → Each (λ (h : Pending). h.question.number < q.number) c.held → SameAt j c (answered q kind false 0 log c)
answered_same j q kind log c above = record {
  node = refl;
  applied = refl;
  clock = refl;
  waits_same = waiting_without j (suc j) q.number (λ e. absurd (omega arith)) c.held (each_map (λ (h : Pending). h.question.number < q.number) (λ (g : Pending). g.question.number ≡ q.number → g.server ≡ suc j) (λ g l e. absurd (omega arith)) c.held above);
  held = each_kept (λ (g : Pending). g.server ≡ j → IsAmong g c.held) q.number c.held (all_there j c.held);
}

-- another server's time in office, and what no work reads
office_other : (j i : ℕ) → j ≢ i → (o : Office) (c : Cluster) → SameAt j c (with_office i o c)
office_other j i d o c = record { node = refl; applied = ap (λ z. z.applied) (item_other no_server c.servers i j _ d); clock = refl; waits_same = refl; held = all_there j c.held }

seated_other : (j i : ℕ) → j ≢ i → (w : World) (c : Cluster) → SameAt j c (seated w i c)
seated_other j i d w c = at_bool (λ b. SameAt j c (cond b (with_office i (office_from (clock_of c.world i)) c) c)) (took_office w c.world i) (λ _. office_other j i d _ c) (λ _. same_itself j c)

proposals_other : (j i : ℕ) → j ≢ i → (commands : List Command) (c : Cluster) (n : ℕ) (c' : Cluster) (whole : Bool) → Proposals i commands c n c' whole → SameAt j c c'
proposals_other j i d commands c n c' whole none_left = same_itself j c
proposals_other j i d commands c n c' whole breaks = same_itself j c
proposals_other j i d (command ∷ commands) c n c' whole (enters {n = m} w' lead room a up more) =
    let k = acts_node j i d c.world _ w' a in same_on j c (moved i w' c) c' (moved_other j i (halted_now c.world w' i) w' c k.0 k.1) (proposals_other j i d commands (moved i w' c) m c' whole more)
proposals_other j i d (command ∷ commands) c n c' whole (refuses w' lead a why) = let k = acts_node j i d c.world _ w' a in moved_other j i (halted_now c.world w' i) w' c k.0 k.1

tends_other : (j i : ℕ) → j ≢ i → (c c' : Cluster) (whole : Bool) → Tends i c c' whole → SameAt j c c'
tends_other j i d c c' whole (idles lead e) = subst (SameAt j c) (sym e) (same_itself j c)
tends_other j i d c c' whole (in_turn n m c₁ c₂ lead p r e) = subst (SameAt j c) (sym e)
    (let b = with_ends i (take n (over_rows c i)) c₁ in
    same_on j c c₁ c₂ (proposals_other j i d _ c n c₁ true p) (same_on j c₁ b c₂ (office_other j i d _ c₁) (same_on j b (looked i b) c₂ (office_other j i d _ b) (proposals_other j i d _ (looked i b) m c₂ whole r))))
tends_other j i d c c' whole (cut_off n c₁ lead p e) = subst (SameAt j c) (sym e) (same_on j c c₁ _ (proposals_other j i d _ c n c₁ false p) (office_other j i d _ c₁))

told_same : (j : ℕ) (c : Cluster) (q : Question) (op : AgentOp) (g : Option Agent) → Each (λ (h : Pending). h.question.number < q.number) c.held → SameAt j c (told q op g c)
told_same j c q op None above = answered_same j q _ [] c above
told_same j c q op (Some g) above = same_on j c (with_agent q.agent g c) _ (same_agents c (with_agent q.agent g c).agents) (answered_same j q _ [] (with_agent q.agent g c) above)
  where
    same_agents : (c : Cluster) (agents : List Agent) → SameAt j c (record c { agents = agents })
    same_agents c agents = record { node = refl; applied = refl; clock = refl; waits_same = refl; held = all_there j c.held }

agent_same : (j : ℕ) (c : Cluster) (made : Event) → Facts c made → SameAt j c (agent_did made c)
agent_same j c (event.AgentTick a ms) f = record { node = refl; applied = refl; clock = refl; waits_same = refl; held = all_there j c.held }
agent_same j c (event.Ask a (Good (OfAgent op)) draw) f = told_same j c (record { number = c.asked; agent = a; asked = Good (OfAgent op); draw = draw }) op (change a op (agent_of c a)) (f.asked a (Good (OfAgent op)) draw refl).now.above
agent_same j c other f = same_itself j c

synced_same : (j : ℕ) (a : ℕ) (count : Option ℕ) (c : Cluster) → SameAt j c (synced a count c)
synced_same j a count c = record { node = refl; applied = refl; clock = refl; waits_same = refl; held = all_there j c.held }

adopted_same : (j a i : ℕ) (c : Cluster) → SameAt j c (adopted a i c)
adopted_same j a i c = record { node = refl; applied = refl; clock = refl; waits_same = refl; held = all_there j c.held }

syncs_other : (j i : ℕ) → j ≢ i → (a : ℕ) (own : Bool) (c c' : Cluster) (whole : Bool) → Syncs i a own c c' whole → SameAt j c c'
syncs_other j i d a own c c' whole (finds_none r e) = subst (SameAt j c) (sym e) (synced_same j a None c)
syncs_other j i d a own c c' whole (plans n c₁ r p e) = subst (SameAt j c) (sym e) (same_on j c (adopted a i c) _ (adopted_same j a i c) (same_on j (adopted a i c) c₁ _ (proposals_other j i d _ (adopted a i c) n c₁ true p) (synced_same j a (Some n) c₁)))
syncs_other j i d a own c c' whole (breaks_off n some r p) = same_on j c (adopted a i c) c' (adopted_same j a i c) (proposals_other j i d _ (adopted a i c) n c' false p)
syncs_other j i d a own c c' whole (cut_first mine r e) = subst (SameAt j c) (sym e) (same_itself j c)

handles_other : (j i : ℕ) → j ≢ i → (c : Cluster) (q : Question) → AskIsNew c q → (c' : Cluster) → Handles c i q c' → SameAt j c c'
handles_other j i d c q a c' (unready st r e) = subst (SameAt j c) (sym e) (answered_same j q _ [] c a.now.above)
handles_other j i d c q a c' (full command w' ask free go room b e) = subst (SameAt j c) (sym e)
    (let n = acts_node j i d c.world _ w' b in same_on j c (moved i w' c) _ (moved_other j i (halted_now c.world w' i) w' c n.0 n.1) (answered_same j q _ [] (moved i w' c) a.now.above))
handles_other j i d c q a c' (proposes command w' ask free go room b up e) = subst (SameAt j c) (sym e)
    (let n = acts_node j i d c.world _ w' b in same_on j c (moved i w' c) _ (moved_other j i (halted_now c.world w' i) w' c n.0 n.1) (holding_other j i d q _ _ (moved i w' c)))
handles_other j i d c q a c' (stops command w' ask free go room b down e) = subst (SameAt j c) (sym e)
    (let n = acts_node j i d c.world _ w' b in same_on j c (moved i w' c) _ (moved_other j i (halted_now c.world w' i) w' c n.0 n.1) (answered_same j q _ [] (moved i w' c) a.now.above))
handles_other j i d c q a c' (delays command key ask go k e) = subst (SameAt j c) (sym e) (answered_same j q _ [] c a.now.above)
handles_other j i d c q a c' (renews id ask go e) = subst (SameAt j c) (sym e)
    (let o = renew_in (session_of c i id) (clock_of c.world i) (office_of c i) in
    let b : Cluster = with_office i o (record c { starts = Looked q.number i (length (applied_of c i)) ∷ c.starts }) in
    same_on j c b _ (record { node = refl; applied = ap (λ z. z.applied) (item_other no_server c.servers i j _ d); clock = refl; waits_same = refl; held = all_there j c.held }) (answered_same j q _ (applied_of c i) b a.now.above))
handles_other j i d c q a c' (probes wait w' look go b e) = subst (SameAt j c) (sym e)
    (let n = acts_node j i d c.world _ w' b in same_on j c (moved i w' c) _ (moved_other j i (halted_now c.world w' i) w' c n.0 n.1) (holding_other j i d q _ _ (moved i w' c)))
handles_other j i d c q a c' (reads mode wait look k go e) = subst (SameAt j c) (sym e) (holding_other j i d q _ _ c)

-- what is ended at server i is not of server j
waiting_ended : (j i n : ℕ) → j ≢ i → (hs : List Pending) → waiting j (map (ended i n) hs) ≡ waiting j hs
waiting_ended j i n d [] = refl
waiting_ended j i n d (h ∷ hs) =
    let r = waiting_ended j i n d hs in
    at_bool (λ b. (h.server == i) ≡ b → waiting j (cond b (record h { stand = Ended n }) h ∷ map (ended i n) hs) ≡ waiting j (h ∷ hs)) (h.server == i)
    (λ _ e. waiting_cons j (record h { stand = Ended n }) (map (ended i n) hs) ∙ ap (λ b. waits_first b (waiting j (map (ended i n) hs))) (not_waiting j i d (record h { stand = Ended n }) (eq_tells h.server i e)) ∙ r
    ∙ sym (waiting_cons j h hs ∙ ap (λ b. waits_first b (waiting j hs)) (not_waiting j i d h (eq_tells h.server i e))))
    (λ _ _. waiting_cons j h (map (ended i n) hs) ∙ ap (waits_first (waits j h)) r ∙ sym (waiting_cons j h hs)) refl

ended_there : (j i n : ℕ) → j ≢ i → (all hs : List Pending) → Each (λ (g : Pending). g.server ≡ j → IsAmong g all) hs → Each (λ (g : Pending). g.server ≡ j → IsAmong g all) (map (ended i n) hs)
ended_there j i n d all [] x = tt
ended_there j i n d all (h ∷ hs) x = (
  at_bool (λ b. (h.server == i) ≡ b → (cond b (record h { stand = Ended n }) h).server ≡ j → IsAmong (cond b (record h { stand = Ended n }) h) all) (h.server == i)
      (λ _ e at. absurd (d (sym at ∙ eq_tells h.server i e))) (λ _ _ at. x.0 at) refl,
  ended_there j i n d all hs x.1,
)

acts_other : (j n : ℕ) (c : Cluster) (i : ℕ) → j ≢ i → (made : Event) → (n ≡ 0 → Facts c made) → (c' : Cluster) → Acts n c i made c' → SameAt j c c'
acts_other j n c i d made f c' (takes input w' z is a e) = subst (SameAt j c) (sym e) (let k = acts_node j i d c.world input w' a in same_on j c (moved i w' c) _ (moved_other j i (halted_now c.world w' i) w' c k.0 k.1) (seated_other j i d c.world (moved i w' c)))
acts_other j n c i d made f c' (ticks ms w' z is (old, at, w) e) = subst (SameAt j c) (sym e)
    (moved_other j i (halted_now c.world w' i) w' c (ap (λ (z : World). node_of z j) w) (ap (λ (z : World). clock_of z j) w ∙ clock_other c.world.clocks i j _ d))
acts_other j n c i d made f c' (arms nth w' z is (old, at, w) e) = subst (SameAt j c) (sym e)
    (moved_other j i (halted_now c.world w' i) w' c (ap (λ (z : World). node_of z j) w ∙ item_other no_node c.world.nodes i j _ d) (ap (λ (z : World). clock_of z j) w))
acts_other j n c i d made f c' (restarts w' z is (old, new, at, r, w) e) = subst (SameAt j c) (sym e) (record {
  node = ap (λ (z : World). node_of z j) w ∙ item_other no_node c.world.nodes i j new d;
  applied = ap (λ z. z.applied) (item_other no_server c.servers i j no_server d);
  clock = ap (λ (z : World). clock_of z j) w;
  waits_same = waiting_ended j i _ d c.held;
  held = ended_there j i _ d c.held c.held (all_there j c.held);
})
acts_other j n c i d made f c' (handles agent asked draw z is goes h) = handles_other j i d c (record { number = c.asked; agent = agent; asked = asked; draw = draw }) ((f z).asked agent asked draw is) c' h
acts_other j n c i d made f c' (tends ms whole z is t) = tends_other j i d c c' whole t
acts_other j n c i d made f c' (syncs a whole z is goes y) = same_on j c (agent_did made c) c' (agent_same j c made (f z)) (syncs_other j i d a (did_own made) (agent_did made c) c' whole y)

does_whole : (i : ℕ) (made : Event) (n : ℕ) (c c' : Cluster) (whole : Bool) → Does i made n c c' whole → whole ≡ true → IsSoundAtWork c → (n ≡ 0 → Facts c made) → NoneBehind c → NoneBehind c'
does_whole i made n c c' whole (over e) w s f up = up
does_whole i made n c c' whole (act c₁ c₂ a r m more) w s f up =
    let s₁ = acts_sound n c s i made f (all_applied c i (up i)) c₁ a in
    does_whole i made (suc n) c₂ c' whole more w (works_sound i c₁ c₂ m.0 s₁) (λ z. absurd (omega arith))
    (λ j. at_bool (λ b. (j == i) ≡ b → due j c₂ ≡ None) (j == i)
    (λ _ e. subst (λ z. due z c₂ ≡ None) (sym (eq_tells j i e)) m.1)
    (λ _ e. let d = eq_tells_not j i e in same_due j c c₂ (same_on j c c₁ c₂ (acts_other j n c i d made f c₁ a) (works_other j i d c₁ c₂ s₁.ascends m.0)) (up j)) refl)
does_whole i made n c c' whole (cut c₁ a m short) w s f up = absurd (cc w)
does_whole i made n c c' whole (cut_between l k) w s f up = absurd (cc w)

marked_behind : (made : Event) (c : Cluster) → NoneBehind c → NoneBehind (marked made c)
marked_behind (event.Ask agent asked draw) c b = λ j. b j
marked_behind (event.Timeout i) c b = λ j. b j
marked_behind (event.Beat i) c b = λ j. b j
marked_behind (event.Tick i ms) c b = λ j. b j
marked_behind (event.Deliver k) c b = λ j. b j
marked_behind (event.Drop k) c b = λ j. b j
marked_behind (event.Restart i) c b = λ j. b j
marked_behind (event.FailKeep i n) c b = λ j. b j
marked_behind (event.Sync a) c b = λ j. b j
marked_behind (event.AgentTick a ms) c b = λ j. b j

passes_other : (j : ℕ) (c : Cluster) (made : Event) → Facts c made → (c' : Cluster) → Passes c made c' → SameAt j c c'
passes_other j c made f c' (loses k w' is (p, n, w) e) = subst (SameAt j c) (sym e) (record { node = ap (λ (z : World). node_of z j) w; applied = refl; clock = ap (λ (z : World). clock_of z j) w; waits_same = refl; held = all_there j c.held })
passes_other j c made f c' (replies agent asked draw why is goes e) = subst (SameAt j c) (sym e) (answered_same j _ _ [] c (f.asked agent asked draw is).now.above)
passes_other j c made f c' (stays own free e) = subst (SameAt j c) (sym e) (agent_same j c made f)
passes_other j c made f c' (leaderless a why own is goes e) = subst (SameAt j c) (sym e) (same_on j c (agent_did made c) _ (agent_same j c made f) (synced_same j a None (agent_did made c)))

-- A whole step leaves no server behind where none was.
pub step_whole : (c c' : Cluster) (made : Event) (whole : Bool) → ClusterStep c made c' whole → whole ≡ true → Sound c → NoneBehind c → NoneBehind c'
step_whole c c' made whole (done i c₁ c₂ m d e) w s b =
    let s₀ = marked_sound c s.parts made in
    let up = marked_behind made c b in
    subst NoneBehind (sym e) (does_whole i made 0 c₁ c₂ whole d w (works_sound i (marked made c) c₁ m.0 s₀) (λ _. facts_worked i (marked made c) c₁ made m.0 (facts_marked c s.parts made))
    (λ j. at_bool (λ b. (j == i) ≡ b → due j c₁ ≡ None) (j == i)
    (λ _ e. subst (λ z. due z c₁ ≡ None) (sym (eq_tells j i e)) m.1)
    (λ _ e. same_due j (marked made c) c₁ (works_other j i (eq_tells_not j i e) (marked made c) c₁ s₀.ascends m.0) (up j)) refl))
step_whole c c' made whole (passed c₁ t p e) w s b = subst NoneBehind (sym e) (λ j. same_due j (marked made c) c₁ (passes_other j (marked made c) made (facts_marked c s.parts made) c₁ p) (marked_behind made c b j))
step_whole c c' made whole (cut_early i k c₁ short for d more e) w s b = absurd (cc (w, short))

-- The start: nothing is committed and nothing held.
starts_zero : (servers id : ℕ) (ss : List Store) (ns : List Node) → StartAll servers id ss ns → (w : World) → w.nodes ≡ ns → (j : ℕ) → (node_of w j).commit ≡ 0
starts_zero servers id ss ns a w e zero = refl
starts_zero servers id ss ns a w e (suc j) = subst (λ (z : List Node). (get z j).commit ≡ 0) (sym e) (go servers id ss ns a j)
  where
    get : List Node → ℕ → Node
    get z j = node_of (record w { nodes = z }) (suc j)

    go : (servers id : ℕ) (ss : List Store) (ns : List Node) → StartAll servers id ss ns → (j : ℕ) → (get ns j).commit ≡ 0
    go servers id [] [] a j = refl
    go servers id [] (n ∷ ns) a j = absurd a
    go servers id (s ∷ ss) [] a j = absurd a
    go servers id (s ∷ ss) (n ∷ ns) ((kept, c, r, e), rest) zero = ap (λ (z : Node). z.commit) e
    go servers id (s ∷ ss) (n ∷ ns) (x, rest) (suc j) = go servers (suc id) ss ns rest j

start_whole : (c : Cluster) → IsStart c → NoneBehind c
start_whole c s = subst NoneBehind (sym s.is) (λ j. next_none j (starts_zero (length s.stores) 1 s.stores s.world.nodes s.begins.nodes s.world refl j))
  where
    next_zero : (j : ℕ) → (node_of s.world j).commit ≡ 0 → nat_lt (length (applied_of (started s.world s.agents) j)) (node_of s.world j).commit ≡ false
    next_zero j e = below (length (applied_of (started s.world s.agents) j)) (node_of s.world j).commit e
      where
        below : (a b : ℕ) → b ≡ 0 → nat_lt a b ≡ false
        below a b e = grind (arith, nat_tests)

    zero_next : (j : ℕ) → nat_lt (length (applied_of (started s.world s.agents) j)) (node_of s.world j).commit ≡ false → due j (started s.world s.agents) ≡ None
    zero_next j e = ap (λ b. or_work (cond b (Some Applies) None) None) e

    next_none : (j : ℕ) → (node_of s.world j).commit ≡ 0 → due j (started s.world s.agents) ≡ None
    next_none j e = zero_next j (next_zero j e)

both_true : (a b : Bool) → (a && b) ≡ true → (a ≡ true) × (b ≡ true)
both_true true b e = (refl, e)
both_true false b e = absurd (cc e)

-- Where each event of a run was whole, no server is behind.
pub run_whole : (start : Cluster) → IsStart start → (whole : Bool) (moves : List Move) (c : Cluster) → Reached start whole moves c → whole ≡ true → NoneBehind c
run_whole start i whole moves c at_start w = start_whole start i
run_whole start i whole moves c (by_event {whole = before} {moves = ms} {c = b} made all r fits s) w =
    let t = both_true before all w in step_whole b c made all s t.1 (run_sound start i before ms b r) (run_whole start i before ms b r t.0)
run_whole start i whole moves c (by_taking {whole = before} {moves = ms} {c = b} number out b₁ a₁ r is e) w = run_whole start i before ms b r w
run_whole start i whole moves c (by_handing {whole = before} {moves = ms} {c = b} out b₁ a₁ r is e) w = run_whole start i before ms b r w
run_whole start i whole moves c (by_settling {whole = before} {moves = ms} {c = b} pairs all r ends) w = run_whole start i before ms b r w
run_whole start i whole moves c (by_advancing {whole = before} {moves = ms} {c = b} time made r ends) w = run_whole start i before ms b r w
