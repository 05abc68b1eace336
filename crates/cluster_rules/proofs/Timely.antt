-- Nothing that a server noted lies ahead of its clock.
use Rattle.std.proofs.Common.{◌≡◌, ℕ, zero, suc, ◌+◌, ◌≤◌, Bool, true, false, cond, List, [], ◌∷◌, filter, length, take, refl, sym, ap, subst, arith, Option, Some, None}
use Rattle.std.specs.List.{AllByRecursion as Each}
use Rattle.std.specs.Ordering.{is_gt, is_lt, nat_cmp}
use Rattle.cat_model.proofs.TableLemmas.{All-filter}
use Rattle.cat_model.specs.Delays.{Start as Renewal}
use Rattle.cat_model.specs.Tables.{put}
use Rattle.cat_model.specs.declared.command.Command.{Command}
use Rattle.cat_model.specs.declared.command.Entry.{Entry}
use Rattle.cat_model.specs.declared.request.AgentOp.{AgentOp}
use Rattle.cat_model.specs.declared.request.Asked.TheVariants.{Good}
use Rattle.cat_model.specs.declared.request.Event.{Event}
use Rattle.cat_model.specs.declared.request.Event.TheVariants as event
use Rattle.cat_model.specs.declared.request.Request.TheVariants.{Agent as OfAgent}
use Rattle.cat_model.specs.declared.row.SessionRow.{SessionRow}
use Rattle.raft_model.specs.Log.{entry_at}
use Rattle.raft_model.specs.Node.{set_server, of_server}
use Rattle.raft_model.specs.Rules.{Input}
use Rattle.raft_model.specs.Node.{Store}
use Rattle.raft_model.specs.World.{World, Acts as NodeActs}
use Rattle.raft_model.proofs.Tests.{at_bool}
use Rattle.cluster_rules.specs.Replies.{Question}
use Rattle.cluster_rules.specs.Agents.{Agent, change}
use Rattle.cluster_rules.specs.Offices.{Office, office_from, ended_too, looks_on, renew_in, renewal_id, reap_pause}
use Rattle.cluster_rules.specs.Cluster.{Server, Cluster, item_of, no_server, node_of, server_of, applied_of, clock_of, agent_of, office_of, with_office, took_office, seated, started}
use Rattle.cluster_rules.specs.Due.{Work, Replies, Holds, Closes, Applies, applies_entry, did, Works, none, work}
use Rattle.cluster_rules.specs.Requests.{moved, session_of, Handles, unready, full, proposes, stops, delays, probes, reads, renews}
use Rattle.cluster_rules.specs.Proposals.{Proposals, none_left, breaks, enters, refuses, over_rows, with_ends, looked, Tends, idles, in_turn, cut_off, told, agent_did, adopted, Syncs, finds_none, plans, breaks_off, cut_first, did_own}
use Rattle.cluster_rules.specs.Step.{Acts, takes, ticks, arms, restarts, handles, tends, syncs, Does, over, act, cut, cut_between, Passes, loses, replies, stays, leaderless, noted, marked, ClusterStep, done, passed, cut_early}
use Rattle.cluster_rules.specs.Reached.{IsBegun, Move, Reached, at_start, by_event, by_taking, by_handing, by_settling, by_advancing}
use Rattle.cluster_rules.specs.Leases.{IsTimely}
use Rattle.cluster_rules.specs.Timely.{AreTimely}
use Rattle.cluster_rules.proofs.Tools.{at_item, each_map, each_append}
use Rattle.cluster_rules.proofs.Reached.{fresh_server}

later_server : (now now' : ℕ) (s : Server) → now ≤ now' → IsTimely now s.clocks s.office → IsTimely now' s.clocks s.office
later_server now now' s l t = record {
  positions = each_map (λ k. k ≤ now) (λ k. k ≤ now') (λ k x. omega arith) s.clocks t.positions;
  since = let k = t.since in omega arith;
  renewals = each_map (λ (r : Renewal). r.clock ≤ now) (λ (r : Renewal). r.clock ≤ now') (λ r x. omega arith) s.office.renewals t.renewals;
}

new_timely : (now : ℕ) → IsTimely now no_server.clocks no_server.office
new_timely now = record { positions = tt; since = omega arith; renewals = tt }

-- server i is another, as timely
set_timely : (c : Cluster) → AreTimely c → (i : ℕ) (s : Server) → IsTimely (clock_of c.world i) s.clocks s.office → (j : ℕ) → IsTimely (clock_of c.world j) (server_of (set_server c.servers i s) j).clocks (server_of (set_server c.servers i s) j).office
set_timely c t i s x j = at_item (λ (z : Server). IsTimely (clock_of c.world j) z.clocks z.office) no_server c.servers i s j (λ e. subst (λ k. IsTimely (clock_of c.world k) s.clocks s.office) (sym e) x) (t j)

office_timely : (c : Cluster) → AreTimely c → (i : ℕ) (o : Office) → o.since ≤ clock_of c.world i → Each (λ (r : Renewal). r.clock ≤ clock_of c.world i) o.renewals → AreTimely (with_office i o c)
office_timely c t i o s r = set_timely c t i (record (server_of c.servers i) { office = o }) (record { positions = (t i).positions; since = s; renewals = r })

applied_timely : (now : ℕ) (s : Server) (o : Option Entry) → IsTimely now s.clocks s.office → IsTimely now (applies_entry now s o).clocks (applies_entry now s o).office
applied_timely now s None t = t
applied_timely now s (Some e) t = record { positions = each_append (λ k. k ≤ now) s.clocks (now ∷ []) t.positions (omega arith, tt); since = t.since; renewals = t.renewals }

did_timely : (i : ℕ) (w : Work) (c : Cluster) → AreTimely c → AreTimely (did i w c)
unfolding did
did_timely i (Replies q kind) c t = t
did_timely i (Holds h) c t = t
did_timely i (Closes number event) c t = t
did_timely i Applies c t = set_timely c t i (applies_entry (clock_of c.world i) (server_of c.servers i) (entry_at (suc (length (applied_of c i))) (node_of c.world i).log)) (applied_timely (clock_of c.world i) (server_of c.servers i) _ (t i))

works_timely : (i : ℕ) (c c' : Cluster) → Works i c c' → AreTimely c → AreTimely c'
works_timely i c c' none t = t
works_timely i c c' (work w e more) t = works_timely i (did i w c) c' more (did_timely i w c t)

-- a world in which no clock is behind
world_timely : (c : Cluster) → AreTimely c → (w' : World) → ((j : ℕ) → clock_of c.world j ≤ clock_of w' j) → (j : ℕ) → IsTimely (clock_of w' j) (server_of c.servers j).clocks (server_of c.servers j).office
world_timely c t w' l j = later_server (clock_of c.world j) (clock_of w' j) (server_of c.servers j) (l j) (t j)

acts_clock : (w : World) (i : ℕ) (input : Input) (w' : World) → NodeActs w i input w' → (j : ℕ) → clock_of w j ≤ clock_of w' j
acts_clock w i input w' a j = let e = ap (λ (z : World). clock_of z j) a.becomes in omega (arith, e)

moved_timely : (c : Cluster) → AreTimely c → (i : ℕ) (input : Input) (w' : World) → NodeActs c.world i input w' → AreTimely (moved i w' c)
moved_timely c t i input w' a = world_timely c t w' (acts_clock c.world i input w' a)

seated_timely : (w : World) (i : ℕ) (c : Cluster) → AreTimely c → AreTimely (seated w i c)
seated_timely w i c t = at_bool (λ b. AreTimely (cond b (with_office i (office_from (clock_of c.world i)) c) c)) (took_office w c.world i) (λ _. office_timely c t i (office_from (clock_of c.world i)) (omega arith) tt) (λ _. t)

proposals_timely : (i : ℕ) (commands : List Command) (c : Cluster) (n : ℕ) (c' : Cluster) (whole : Bool) → Proposals i commands c n c' whole → AreTimely c → AreTimely c'
proposals_timely i commands c n c' whole none_left t = t
proposals_timely i commands c n c' whole breaks t = t
proposals_timely i (command ∷ commands) c n c' whole (enters {n = m} w' lead room a up more) t = proposals_timely i commands (moved i w' c) m c' whole more (moved_timely c t i _ w' a)
proposals_timely i (command ∷ commands) c n c' whole (refuses w' lead a why) t = moved_timely c t i _ w' a

ends_timely : (c : Cluster) → AreTimely c → (i : ℕ) (rows : List SessionRow) → AreTimely (with_ends i rows c)
ends_timely c t i rows = office_timely c t i (ended_too rows (office_of c i)) (t i).since (t i).renewals

looked_timely : (c : Cluster) → AreTimely c → (i : ℕ) → AreTimely (looked i c)
looked_timely c t i = office_timely c t i (looks_on (clock_of c.world i) (office_of c i))
    (at_bool (λ b. (cond b (record (office_of c i) { reap = clock_of c.world i + reap_pause }) (office_of c i)).since ≤ clock_of c.world i) _ (λ _. (t i).since) (λ _. (t i).since))
    (at_bool (λ b. Each (λ (r : Renewal). r.clock ≤ clock_of c.world i) (cond b (record (office_of c i) { reap = clock_of c.world i + reap_pause }) (office_of c i)).renewals) _ (λ _. (t i).renewals) (λ _. (t i).renewals))

tends_timely : (i : ℕ) (c c' : Cluster) (whole : Bool) → Tends i c c' whole → AreTimely c → AreTimely c'
tends_timely i c c' whole (idles lead e) t = subst AreTimely (sym e) t
tends_timely i c c' whole (in_turn n m c₁ c₂ lead p r e) t = subst AreTimely (sym e)
    (let b = with_ends i (take n (over_rows c i)) c₁ in proposals_timely i _ (looked i b) m c₂ whole r (looked_timely b (ends_timely c₁ (proposals_timely i _ c n c₁ true p t) i (take n (over_rows c i))) i))
tends_timely i c c' whole (cut_off n c₁ lead p e) t = subst AreTimely (sym e) (ends_timely c₁ (proposals_timely i _ c n c₁ false p t) i (take n (over_rows c i)))

told_timely : (c : Cluster) (q : Question) (op : AgentOp) (g : Option Agent) → AreTimely c → AreTimely (told q op g c)
told_timely c q op None t = t
told_timely c q op (Some g) t = t

agent_timely : (c : Cluster) (made : Event) → AreTimely c → AreTimely (agent_did made c)
agent_timely c (event.AgentTick a ms) t = t
agent_timely c (event.Ask a (Good (OfAgent op)) draw) t = told_timely c (record { number = c.asked; agent = a; asked = Good (OfAgent op); draw = draw }) op (change a op (agent_of c a)) t
agent_timely c other t = t

syncs_timely : (i a : ℕ) (own : Bool) (c c' : Cluster) (whole : Bool) → Syncs i a own c c' whole → AreTimely c → AreTimely c'
syncs_timely i a own c c' whole (finds_none r e) t = subst AreTimely (sym e) t
syncs_timely i a own c c' whole (plans n c₁ r p e) t = subst AreTimely (sym e) (proposals_timely i _ (adopted a i c) n c₁ true p t)
syncs_timely i a own c c' whole (breaks_off n some r p) t = proposals_timely i _ (adopted a i c) n c' false p t
syncs_timely i a own c c' whole (cut_first mine r e) t = subst AreTimely (sym e) t

put_timely : (now : ℕ) (new : Renewal) (rs : List Renewal) → new.clock ≤ now → Each (λ (r : Renewal). r.clock ≤ now) rs → Each (λ (r : Renewal). r.clock ≤ now) (put nat_cmp renewal_id new rs)
unfolding put
put_timely now new rs l t = each_append (λ (r : Renewal). r.clock ≤ now) (filter (λ r. is_lt (nat_cmp r.session new.session)) rs) (new ∷ filter (λ r. is_gt (nat_cmp r.session new.session)) rs)
    (All-filter (λ (r : Renewal). r.clock ≤ now) (λ r. is_lt (nat_cmp r.session new.session)) rs t)
    (l, All-filter (λ (r : Renewal). r.clock ≤ now) (λ r. is_gt (nat_cmp r.session new.session)) rs t)

renewed_timely : (c : Cluster) → AreTimely c → (i : ℕ) (row : Option SessionRow) → AreTimely (with_office i (renew_in row (clock_of c.world i) (office_of c i)) c)
renewed_timely c t i None = office_timely c t i (office_of c i) (t i).since (t i).renewals
renewed_timely c t i (Some s) = office_timely c t i (renew_in (Some s) (clock_of c.world i) (office_of c i)) (t i).since (put_timely (clock_of c.world i) (record { session = s.id; clock = clock_of c.world i }) (office_of c i).renewals (omega arith) (t i).renewals)

handles_timely : (c : Cluster) → AreTimely c → (i : ℕ) (q : Question) (c' : Cluster) → Handles c i q c' → AreTimely c'
handles_timely c t i q c' (unready st r e) = subst AreTimely (sym e) t
handles_timely c t i q c' (full command w' ask free go room a e) = subst AreTimely (sym e) (moved_timely c t i _ w' a)
handles_timely c t i q c' (proposes command w' ask free go room a up e) = subst AreTimely (sym e) (moved_timely c t i _ w' a)
handles_timely c t i q c' (stops command w' ask free go room a down e) = subst AreTimely (sym e) (moved_timely c t i _ w' a)
handles_timely c t i q c' (delays command key ask go d e) = subst AreTimely (sym e) t
handles_timely c t i q c' (probes wait w' ask go a e) = subst AreTimely (sym e) (moved_timely c t i _ w' a)
handles_timely c t i q c' (reads mode wait ask d go e) = subst AreTimely (sym e) t
handles_timely c t i q c' (renews id ask go e) = subst AreTimely (sym e) (renewed_timely c t i (session_of c i id))

-- a clock that goes on
as_item : (ks : List ℕ) (j : ℕ) → item_of 0 ks j ≡ of_server ks j
as_item ks zero = refl
as_item ks (suc j) = refl

clock_on : (clocks : List ℕ) (i d j : ℕ) → of_server clocks j ≤ of_server (set_server clocks i (of_server clocks i + d)) j
clock_on clocks i d j = subst (λ z. of_server clocks j ≤ z) (as_item (set_server clocks i (of_server clocks i + d)) j)
    (at_item (λ z. of_server clocks j ≤ z) 0 clocks i (of_server clocks i + d) j (λ e. let k = ap (of_server clocks) e in omega (arith, k)) (let k = as_item clocks j in omega (arith, k)))

world_clock : (w w' : World) (j : ℕ) → w'.clocks ≡ w.clocks → clock_of w j ≤ clock_of w' j
world_clock w w' j e = let k = ap (λ z. of_server z j) e in omega (arith, k)

cluster_acts : (n : ℕ) (c : Cluster) (i : ℕ) (made : Event) (c' : Cluster) → Acts n c i made c' → AreTimely c → AreTimely c'
cluster_acts n c i made c' (takes input w' z is a e) t = subst AreTimely (sym e) (seated_timely c.world i (moved i w' c) (moved_timely c t i input w' a))
cluster_acts n c i made c' (ticks ms w' z is (old, at, w) e) t = subst AreTimely (sym e) (world_timely c t w' (λ j. subst (λ (x : World). clock_of c.world j ≤ clock_of x j) (sym w) (clock_on c.world.clocks i ms j)))
cluster_acts n c i made c' (arms nth w' z is (old, at, w) e) t = subst AreTimely (sym e) (world_timely c t w' (λ j. world_clock c.world w' j (ap (λ (x : World). x.clocks) w)))
cluster_acts n c i made c' (restarts w' z is (old, new, at, r, w) e) t = subst AreTimely (sym e)
    (λ j. at_item (λ (x : Server). IsTimely (clock_of w' j) x.clocks x.office) no_server c.servers i no_server j (λ _. new_timely (clock_of w' j)) (world_timely c t w' (λ j. world_clock c.world w' j (ap (λ (x : World). x.clocks) w)) j))
cluster_acts n c i made c' (handles agent asked draw z is goes h) t = handles_timely c t i _ c' h
cluster_acts n c i made c' (tends ms whole z is y) t = tends_timely i c c' whole y t
cluster_acts n c i made c' (syncs a whole z is goes y) t = syncs_timely i a (did_own made) (agent_did made c) c' whole y (agent_timely c made t)

does_timely : (i : ℕ) (made : Event) (n : ℕ) (c c' : Cluster) (whole : Bool) → Does i made n c c' whole → AreTimely c → AreTimely c'
does_timely i made n c c' whole (over e) t = t
does_timely i made n c c' whole (act c₁ c₂ a r m more) t = does_timely i made (suc n) c₂ c' whole more (works_timely i c₁ c₂ m.0 (cluster_acts n c i made c₁ a t))
does_timely i made n c c' whole (cut c₁ a m short) t = works_timely i c₁ c' m (cluster_acts n c i made c₁ a t)
does_timely i made n c c' whole (cut_between l k) t = t

marked_timely : (made : Event) (c : Cluster) → AreTimely c → AreTimely (marked made c)
marked_timely (event.Ask agent asked draw) c t = t
marked_timely other c t = t

passes_timely : (c : Cluster) (made : Event) (c' : Cluster) → Passes c made c' → AreTimely c → AreTimely c'
passes_timely c made c' (loses k w' is (p, n, w) e) t = subst AreTimely (sym e) (world_timely c t w' (λ j. world_clock c.world w' j (ap (λ (x : World). x.clocks) w)))
passes_timely c made c' (replies agent asked draw why is goes e) t = subst AreTimely (sym e) t
passes_timely c made c' (stays own free e) t = subst AreTimely (sym e) (agent_timely c made t)
passes_timely c made c' (leaderless a why own is goes e) t = subst AreTimely (sym e) (agent_timely c made t)

step_timely : (c c' : Cluster) (made : Event) (whole : Bool) → ClusterStep c made c' whole → AreTimely c → AreTimely c'
step_timely c c' made whole (done i c₁ c₂ m d e) t = subst AreTimely (sym e) (does_timely i made 0 c₁ c₂ whole d (works_timely i (marked made c) c₁ m.0 (marked_timely made c t)))
step_timely c c' made whole (passed c₁ w p e) t = subst AreTimely (sym e) (passes_timely (marked made c) made c₁ p (marked_timely made c t))
step_timely c c' made whole (cut_early i w c₁ short for d more e) t = subst AreTimely (sym e) (works_timely i (noted made c) c₁ (work w d more) t)

started_timely : (w : World) (agents : ℕ) → AreTimely (started w agents)
started_timely w agents i = subst (λ (s : Server). IsTimely (clock_of w i) s.clocks s.office) (sym (fresh_server (length w.nodes) i)) (new_timely (clock_of w i))

-- In every run.
pub run_timely : (stores : List Store) (start : Cluster) → IsBegun stores start → (whole : Bool) (moves : List Move) (c : Cluster) → Reached start whole moves c → AreTimely c
run_timely stores start i whole moves c at_start = subst AreTimely (sym i.is) (started_timely i.world i.agents)
run_timely stores start i whole moves c (by_event {whole = w} {moves = ms} {c = b} made all r fits s) = step_timely b c made all s (run_timely stores start i w ms b r)
run_timely stores start i whole moves c (by_taking {whole = w} {moves = ms} {c = b} number out before after r is e) = run_timely stores start i w ms b r
run_timely stores start i whole moves c (by_handing {whole = w} {moves = ms} {c = b} out before after r is e) = run_timely stores start i w ms b r
run_timely stores start i whole moves c (by_settling {whole = w} {moves = ms} {c = b} pairs all r ends) = run_timely stores start i w ms b r
run_timely stores start i whole moves c (by_advancing {whole = w} {moves = ms} {c = b} time made r ends) = run_timely stores start i w ms b r
