-- Each held read ends at the clock of its asking with its full wait, and no answer below its index comes before that.
use Rattle.std.proofs.Common.{◌≡◌, ℕ, zero, suc, ◌+◌, inl, inr, Bool, true, false, cond, List, [], ◌∷◌, ◌++◌, length, map, replicate, take, refl, sym, ◌∙◌, ap, subst, arith, Option, Some, None}
use Rattle.std.specs.Prelude.{◌==◌}
use Rattle.std.specs.List.{AllByRecursion as Each}
use Rattle.std.proofs.lemmas.List.{length-replicate}
use Rattle.cat_model.specs.declared.command.Command.{Command}
use Rattle.cat_model.specs.declared.request.AgentOp.{AgentOp}
use Rattle.cat_model.specs.declared.request.Asked.{Asked}
use Rattle.cat_model.specs.declared.request.Asked.TheVariants.{Good}
use Rattle.cat_model.specs.declared.request.Event.{Event}
use Rattle.cat_model.specs.declared.request.Event.TheVariants as event
use Rattle.cat_model.specs.declared.request.Mode.{Mode}
use Rattle.cat_model.specs.declared.request.Request.TheVariants.{Read, Agent as OfAgent}
use Rattle.cat_model.specs.declared.reply.Mark.{Mark}
use Rattle.cat_model.specs.declared.reply.Mark.TheVariants as mark
use Rattle.raft_model.specs.Facts.{next_round}
use Rattle.raft_model.specs.Log.{Log}
use Rattle.raft_model.specs.Node.{Node, Store, of_server, set_server}
use Rattle.raft_model.specs.Rules.{Input}
use Rattle.raft_model.specs.World.{World, IsServer, StartAll}
use Rattle.raft_model.proofs.Tests.{at_bool, eq_tells}
use Rattle.cluster_rules.specs.Agents.{Agent, change}
use Rattle.cluster_rules.specs.Offices.{office_from}
use Rattle.cluster_rules.specs.Replies.{Question, came}
use Rattle.cluster_rules.specs.Cluster.{Ended, Pending, Start, Probed, Looked, Cluster, item_of, node_of, applied_of, clock_of, agent_of, took_office, seated, with_office}
use Rattle.cluster_rules.specs.Requests.{wait_of, look_of, entries_past, halts_past, joined, moved_with, halted_now, moved, Handles, unready, full, proposes, stops, delays, probes, reads, renews}
use Rattle.cluster_rules.specs.Proposals.{Proposals, none_left, breaks, enters, refuses, over_rows, with_ends, looked, Tends, idles, in_turn, cut_off, told, agent_did, adopted, Syncs, finds_none, plans, breaks_off, cut_first, did_own, is_agents, sync_of}
use Rattle.cluster_rules.specs.Step.{input_of, ended, events_in, acts_of, Acts, takes, ticks, arms, restarts, handles, tends, syncs, Does, over, act, cut, cut_between, Passes, loses, replies, stays, leaderless, marked, shelved, ClusterStep, done, passed, cut_early}
use Rattle.cluster_rules.specs.Legal.{DoesLegally, StepIsLegal}
use Rattle.cluster_rules.specs.Reached.{IsStart, Move, Reached, at_start, by_event, by_taking, by_handing, by_settling, by_advancing}
use Rattle.cluster_rules.specs.Sound.{IsAmong}
use Rattle.cluster_rules.proofs.Legal.{step_legal}
use Rattle.cluster_rules.proofs.Reached.{run_sound}
use Rattle.cluster_rules.proofs.Tools.{both, each_append, eq_self, item_same, item_other, is_place, length_set_server}
use Rattle.run_rules.specs.Reads.{clock_in, WasAskedAt, HeldBy, ReadsWait}
use Rattle.run_rules.proofs.Held.{UntilFor, HeldWaits, Waits, Of, no_lag, IsNewest, held_later, one_more, entries_wait, halts_wait, starts_wait, in_world, answered_wait, moved_wait, acted_wait, works_wait, works_newest}

-- What only moves on a server's time in office is no matter of this.
seated_wait : (lag : ℕ → ℕ) (w : World) (i : ℕ) (c : Cluster) → Of lag c → Of lag (seated w i c)
seated_wait lag w i c x = at_bool (λ b. Of lag (cond b (with_office i (office_from (clock_of c.world i)) c) c)) (took_office w c.world i) (λ _. x) (λ _. x)

proposals_wait : (lag : ℕ → ℕ) (i : ℕ) (commands : List Command) (c : Cluster) (n : ℕ) (c' : Cluster) (whole : Bool) → Proposals i commands c n c' whole → Of lag c → Of lag c'
proposals_wait lag i commands c n c' whole none_left x = x
proposals_wait lag i commands c n c' whole breaks x = x
proposals_wait lag i (command ∷ commands) c n c' whole (enters {n = m} w' lead room a up more) x = proposals_wait lag i commands (moved i w' c) m c' whole more (acted_wait lag i _ w' c a x)
proposals_wait lag i (command ∷ commands) c n c' whole (refuses w' lead a why) x = acted_wait lag i _ w' c a x

by_equal : (lag : ℕ → ℕ) (a b : Cluster) → b ≡ a → Of lag a → Of lag b
by_equal lag a b e x = subst (λ (z : Cluster). Of lag z) (sym e) x

tends_wait : (lag : ℕ → ℕ) (i : ℕ) (c c' : Cluster) (whole : Bool) → Tends i c c' whole → Of lag c → Of lag c'
tends_wait lag i c c' whole (idles lead e) x = by_equal lag c c' e x
tends_wait lag i c c' whole (in_turn n m c₁ c₂ lead p r e) x = by_equal lag c₂ c' e (proposals_wait lag i _ (looked i (with_ends i (take n (over_rows c i)) c₁)) m c₂ whole r (proposals_wait lag i _ c n c₁ true p x))
tends_wait lag i c c' whole (cut_off n c₁ lead p e) x = by_equal lag (with_ends i (take n (over_rows c i)) c₁) c' e (proposals_wait lag i _ c n c₁ false p x)

told_wait : (lag : ℕ → ℕ) (c : Cluster) (q : Question) (op : AgentOp) (g : Option Agent) → Of lag c → Of lag (told q op g c)
told_wait lag c q op None x = answered_wait c.starts lag c.world c.held c.past q.number _ false 0 (λ r. r) x
told_wait lag c q op (Some g) x = answered_wait c.starts lag c.world c.held c.past q.number _ false 0 (λ r. r) x

agent_wait : (lag : ℕ → ℕ) (c : Cluster) (made : Event) → Of lag c → Of lag (agent_did made c)
agent_wait lag c (event.AgentTick a ms) x = x
agent_wait lag c (event.Ask a (Good (OfAgent op)) draw) x = told_wait lag c (record { number = c.asked; agent = a; asked = Good (OfAgent op); draw = draw }) op (change a op (agent_of c a)) x
agent_wait lag c other x = x

syncs_wait : (lag : ℕ → ℕ) (i a : ℕ) (own : Bool) (c c' : Cluster) (whole : Bool) → Syncs i a own c c' whole → Of lag c → Of lag c'
syncs_wait lag i a own c c' whole (finds_none r e) x = by_equal lag _ c' e x
syncs_wait lag i a own c c' whole (plans n c₁ r p e) x = by_equal lag _ c' e (proposals_wait lag i _ (adopted a i c) n c₁ true p x)
syncs_wait lag i a own c c' whole (breaks_off n some r p) x = proposals_wait lag i _ (adopted a i c) n c' false p x
syncs_wait lag i a own c c' whole (cut_first mine r e) x = by_equal lag c c' e x

-- A request that begins to be held.
look_until : (starts : List Start) (past : List Mark) (k s clock : ℕ) (asked : Asked) (mode : Mode) (wait : ℕ) → look_of asked ≡ Some (mode, wait) → HeldBy k s starts → WasAskedAt k s clock past → UntilFor starts past k s (clock + wait_of wait) asked
look_until starts past k s clock (Good (Read query m least w raw)) mode wait e h x =
    let same : w ≡ wait = ap (λ (o : Option (Mode × ℕ)). wait_in o) e in
    (h, clock, x, let k = ap wait_of same in omega (arith, k))
  where
    wait_in : Option (Mode × ℕ) → ℕ
    wait_in None = 0
    wait_in (Some p) = p.1
look_until starts past k s clock other mode wait e h x = tt

holds_wait : (start : Start) (starts : List Start) (lag : ℕ → ℕ) (w : World) (held : List Pending) (past : List Mark) (h : Pending) → HeldWaits (start ∷ starts) past h → Waits starts lag w held past → Waits (start ∷ starts) lag w (held ++ h ∷ []) past
holds_wait start starts lag w held past h x z =
    let y = starts_wait start starts lag w held past z in
    record { count = y.count; clocks = y.clocks; held_wait = each_append (HeldWaits (start ∷ starts) past) held (h ∷ []) y.held_wait (x, tt); marks = y.marks }

halts_among : (m : Mark) (i : ℕ) (failed : Bool) (past : List Mark) → IsAmong m past → IsAmong m (halts_past i failed past)
halts_among m i true past x = inr x
halts_among m i false past x = x

entries_among : (m : Mark) (es : Log) (past : List Mark) → IsAmong m past → IsAmong m (entries_past es past)
entries_among m [] past x = x
entries_among m (e ∷ es) past x = entries_among m es (mark.Entry e ∷ past) (inr x)

halts_asked : (k s clock i : ℕ) (failed : Bool) (past : List Mark) → WasAskedAt k s clock past → WasAskedAt k s clock (halts_past i failed past)
halts_asked k s clock i true past x = x
halts_asked k s clock i false past x = x

entries_asked : (k s clock : ℕ) (es : Log) (past : List Mark) → WasAskedAt k s clock past → WasAskedAt k s clock (entries_past es past)
entries_asked k s clock [] past x = x
entries_asked k s clock (e ∷ es) past x = entries_asked k s clock es (mark.Entry e ∷ past) x

handles_wait : (lag : ℕ → ℕ) (c : Cluster) (i : ℕ) (q : Question) (c' : Cluster) → IsAmong (came q) c.past → ((s : ℕ) → WasAskedAt q.number s (clock_of c.world s) c.past) → Handles c i q c' → Of lag c → Of lag c'
handles_wait lag c i q c' m k (unready st r e) x = by_equal lag _ c' e (answered_wait c.starts lag c.world c.held c.past q.number _ false 0 (λ r. r) x)
handles_wait lag c i q c' m k (full command w' ask free go room a e) x = by_equal lag _ c' e (answered_wait c.starts lag w' c.held (moved i w' c).past q.number _ false 0 (λ r. r) (acted_wait lag i _ w' c a x))
handles_wait lag c i q c' m k (proposes command w' ask free go room a up e) x = by_equal lag _ c' e
    (let past' = (moved i w' c).past in holds_wait _ c.starts lag w' c.held past' _ (entries_among (came q) (joined c.world w') _ (halts_among (came q) i (halted_now c.world w' i) c.past m), tt) (acted_wait lag i _ w' c a x))
handles_wait lag c i q c' m k (stops command w' ask free go room a down e) x = by_equal lag _ c' e (answered_wait c.starts lag w' c.held (moved i w' c).past q.number _ false 0 (λ r. r) (acted_wait lag i _ w' c a x))
handles_wait lag c i q c' m k (delays command key ask go d e) x = by_equal lag _ c' e (answered_wait c.starts lag c.world c.held c.past q.number _ false 0 (λ r. r) x)
handles_wait lag c i q c' m k (probes wait w' look go a e) x = by_equal lag _ c' e
    (holds_wait (Probed q.number i (next_round (node_of c.world i))) c.starts lag w' c.held (moved i w' c).past _ (
      entries_among (came q) (joined c.world w') _ (halts_among (came q) i (halted_now c.world w' i) c.past m),
      look_until (Probed q.number i (next_round (node_of c.world i)) ∷ c.starts) (moved i w' c).past q.number i (clock_of c.world i) q.asked _ wait look (inr (next_round (node_of c.world i), inl refl)) (entries_asked q.number i (clock_of c.world i) (joined c.world w') _ (halts_asked q.number i (clock_of c.world i) i (halted_now c.world w' i) c.past (k i))),
    )
    (acted_wait lag i _ w' c a x))
handles_wait lag c i q c' m k (reads mode wait look d go e) x = by_equal lag _ c' e (let start : Start = Looked q.number i (length (applied_of c i)) in holds_wait start c.starts lag c.world c.held c.past _ (m, look_until (start ∷ c.starts) c.past q.number i (clock_of c.world i) q.asked mode wait look (inl (length (applied_of c i), inl refl)) (k i)) x)
handles_wait lag c i q c' m k (renews id ask go e) x = by_equal lag _ c' e
    (let start : Start = Looked q.number i (length (applied_of c i)) in answered_wait (start ∷ c.starts) lag c.world c.held c.past q.number _ false 0 (λ r. r) (starts_wait start c.starts lag c.world c.held c.past x))

-- what the event is still to let the clocks go on by, when so many of its acts are done
abbrev lag_of : Event → ℕ → ℕ → ℕ
lag_of (event.Tick i ms) zero s = cond (i == s) ms 0
lag_of (event.Tick i ms) (suc n) s = 0
lag_of other n s = 0

lag_on : (c : Cluster) (a b : ℕ → ℕ) → ((s : ℕ) → a s ≡ b s) → Of a c → Of b c
lag_on c a b e x = record { count = x.count; clocks = λ s. ap (λ n. clock_of c.world s + n) (sym (e s)) ∙ x.clocks s; held_wait = x.held_wait; marks = x.marks }

fixed : (made : Event) (n : ℕ) → (made' : Event) → made ≡ made' → ((s : ℕ) → lag_of made' n s ≡ lag_of made' (suc n) s) → (s : ℕ) → lag_of made n s ≡ lag_of made (suc n) s
fixed made n made' e f s = subst (λ (m : Event). lag_of m n s ≡ lag_of m (suc n) s) (sym e) (f s)

given_fixed : (w : World) (i : ℕ) (made : Event) (input : Input) → input_of w i made ≡ Some input → (n s : ℕ) → lag_of made n s ≡ lag_of made (suc n) s
given_fixed w i (event.Tick t ms) input e n s = absurd (cc e)
given_fixed w i other input e n s = refl

sync_fixed : (c : Cluster) (made : Event) (a : ℕ) → sync_of c made ≡ Some a → (n s : ℕ) → lag_of made n s ≡ lag_of made (suc n) s
sync_fixed c (event.Tick t ms) a e n s = absurd (cc e)
sync_fixed c other a e n s = refl

-- the clock that goes on, and the others
ticked_clock : (w w' : World) (i ms : ℕ) (old : Node) → IsServer w i old → length w.clocks ≡ length w.nodes → w'.clocks ≡ set_server w.clocks i (of_server w.clocks i + ms) → (s : ℕ) → clock_of w' s ≡ clock_of w s + cond (i == s) ms 0
ticked_clock w w' i ms old at count e s = at_bool (λ b. (i == s) ≡ b → clock_of w' s ≡ clock_of w s + cond b ms 0) (i == s)
    (λ _ t.
    let same : i ≡ s = eq_tells i s t in
    let place = is_place w i old at in
    let set = item_same 0 w.clocks i (of_server w.clocks i + ms) place.0 (let k = place.1 in omega (arith, k, count)) in
    subst (λ z. clock_of w' z ≡ clock_of w z + ms) same (ap (λ z. of_server z i) e ∙ as_item (set_server w.clocks i (of_server w.clocks i + ms)) i ∙ set))
    (λ _ f.
    let other = item_other 0 w.clocks i s (of_server w.clocks i + ms) (λ z. absurd (false_self i s f z)) in
    let zero_more : clock_of w s ≡ clock_of w s + 0 = omega arith in
    ap (λ z. of_server z s) e ∙ as_item (set_server w.clocks i (of_server w.clocks i + ms)) s ∙ other ∙ sym (as_item w.clocks s) ∙ zero_more) refl
  where
    as_item : (ks : List ℕ) (j : ℕ) → of_server ks j ≡ item_of 0 ks j
    as_item ks zero = refl
    as_item ks (suc j) = refl

    false_self : (i s : ℕ) → (i == s) ≡ false → s ≡ i → ⊥
    false_self i s f z = cc (sym f ∙ ap (λ k. i == k) z ∙ eq_self i)

ended_waits : (starts : List Start) (past : List Mark) (i number : ℕ) (h : Pending) → HeldWaits starts past h → HeldWaits starts past (ended i number h)
ended_waits starts past i number h x = at_bool (λ b. HeldWaits starts past (cond b (record h { stand = Ended number }) h)) (h.server == i) (λ _. (x.0, tt)) (λ _. x)

all_ended : (starts : List Start) (past : List Mark) (i number : ℕ) (hs : List Pending) → Each (HeldWaits starts past) hs → Each (HeldWaits starts past) (map (ended i number) hs)
all_ended starts past i number [] x = tt
all_ended starts past i number (h ∷ hs) x = (ended_waits starts past i number h x.0, all_ended starts past i number hs x.1)

acts_wait : (n : ℕ) (c : Cluster) (i : ℕ) (made : Event) (c' : Cluster) → Acts n c i made c' → (n ≡ 0 → IsNewest made c) → Of (lag_of made n) c → Of (lag_of made (suc n)) c'
acts_wait n c i made c' (takes input w' z is a e) new x = by_equal (lag_of made (suc n)) _ c' e
    (seated_wait (lag_of made (suc n)) c.world i (moved i w' c) (acted_wait (lag_of made (suc n)) i input w' c a (lag_on c (lag_of made n) (lag_of made (suc n)) (given_fixed c.world i made input is n) x)))
acts_wait n c i made c' (ticks ms w' z is (old, at, w) e) new x = by_equal (lag_of made (suc n)) _ c' e (ticked made is)
  where
    step : (s : ℕ) → clock_of w' s ≡ clock_of c.world s + cond (i == s) ms 0
    step = ticked_clock c.world w' i ms old at x.count (ap (λ (v : World). v.clocks) w)

    ticked : (m : Event) → m ≡ event.Tick i ms → Of (lag_of made (suc n)) (moved i w' c)
    ticked m k =
        let before : Of (lag_of (event.Tick i ms) zero) c = subst (λ (d : ℕ). Of (lag_of (event.Tick i ms) d) c) z (subst (λ (d : Event). Of (lag_of d n) c) is x) in
        let now : Waits c.starts no_lag w' c.held c.past = record {
          count = ap (λ (v : World). length v.clocks) w ∙ length_set_server c.world.clocks i _ ∙ before.count ∙ sym (ap (λ (v : World). length v.nodes) w);
          clocks = λ s. let a : clock_of w' s ≡ clock_of c.world s + cond (i == s) ms 0 = step s in let b : clock_of c.world s + cond (i == s) ms 0 ≡ clock_in s c.past = before.clocks s in (let g : clock_of w' s + 0 ≡ clock_in s c.past = omega (arith, a, b) in g);
          held_wait = before.held_wait;
          marks = before.marks;
        } in
        subst (λ (d : Event). Of (lag_of d (suc n)) (moved i w' c)) (sym is) (entries_wait c.starts no_lag w' c.held (joined c.world w') _ (halts_wait c.starts no_lag w' c.held i (halted_now c.world w' i) c.past now))
acts_wait n c i made c' (arms nth w' z is (old, at, w) e) new x = by_equal (lag_of made (suc n)) _ c' e
    (moved_wait (lag_of made (suc n)) (halted_now c.world w' i) i w' c (record { clocks = ap (λ (v : World). v.clocks) w; nodes = ap (λ (v : World). length v.nodes) w ∙ length_set_server c.world.nodes i _ })
    (lag_on c (lag_of made n) (lag_of made (suc n)) (fixed made n (event.FailKeep i nth) is (λ s. refl)) x))
acts_wait n c i made c' (restarts w' z is (old, anew, at, r, w) e) new x = by_equal (lag_of made (suc n)) _ c' e
    (let b : Of (lag_of made (suc n)) (moved_with (node_of w' i).halted i w' c) =
    moved_wait (lag_of made (suc n)) (node_of w' i).halted i w' c (record { clocks = ap (λ (v : World). v.clocks) w; nodes = ap (λ (v : World). length v.nodes) w ∙ length_set_server c.world.nodes i _ })
    (lag_on c (lag_of made n) (lag_of made (suc n)) (fixed made n (event.Restart i) is (λ s. refl)) x) in
    record { count = b.count; clocks = b.clocks; held_wait = all_ended c.starts (moved_with (node_of w' i).halted i w' c).past i (events_in (moved_with (node_of w' i).halted i w' c).past) c.held b.held_wait; marks = b.marks })
acts_wait n c i made c' (handles agent asked draw z is goes h) new x =
    let now : IsNewest (event.Ask agent asked draw) c = subst (λ (d : Event). IsNewest d c) is (new z) in
    handles_wait (lag_of made (suc n)) c i (record { number = c.asked; agent = agent; asked = asked; draw = draw }) c' now.0 now.1 h (lag_on c (lag_of made n) (lag_of made (suc n)) (fixed made n (event.Ask agent asked draw) is (λ s. refl)) x)
acts_wait n c i made c' (tends ms whole z is t) new x = tends_wait (lag_of made (suc n)) i c c' whole t (lag_on c (lag_of made n) (lag_of made (suc n)) (fixed made n (event.Tick i ms) is (λ s. ap (λ (d : ℕ). lag_of (event.Tick i ms) d s) z)) x)
acts_wait n c i made c' (syncs a whole z is goes y) new x =
    syncs_wait (lag_of made (suc n)) i a (did_own made) (agent_did made c) c' whole y (agent_wait (lag_of made (suc n)) c made (lag_on c (lag_of made n) (lag_of made (suc n)) (sync_fixed c made a is n) x))

does_wait : (i : ℕ) (made : Event) (n : ℕ) (c c' : Cluster) (whole : Bool) (d : Does i made n c c' whole) → whole ≡ true → DoesLegally i made n c c' whole d → (n ≡ 0 → IsNewest made c) → Of (lag_of made n) c → Of no_lag c'
does_wait i made n c c' whole (over e) w l new x = lag_on c (lag_of made n) no_lag (ended_lag made n e) x
  where
    ended_lag : (m : Event) (n : ℕ) → n ≡ acts_of m → (s : ℕ) → lag_of m n s ≡ 0
    ended_lag (event.Tick t ms) zero e s = absurd (cc e)
    ended_lag (event.Tick t ms) (suc n) e s = refl
    ended_lag other n e s = refl
does_wait i made n c c' whole (act c₁ c₂ a r m more) w l new x =
    does_wait i made (suc n) c₂ c' whole more w l.2 (λ z. absurd (omega arith)) (works_wait (lag_of made (suc n)) i c₁ c₂ m.0 l.1 (acts_wait n c i made c₁ a new x))
does_wait i made n c c' whole (cut c₁ a m short) w l new x = absurd (cc w)
does_wait i made n c c' whole (cut_between k j) w l new x = absurd (cc w)

-- an event's own mark
marked_wait : (made : Event) (c : Cluster) → Of no_lag c → Of (lag_of made zero) (marked made c)
marked_wait (event.Ask agent asked draw) c x = one_more c.starts no_lag c.world c.held c.past (mark.Asked (suc c.asked) agent asked draw) (λ s. refl) (λ r. r) x
marked_wait (event.Tick i ms) c x = record {
  count = x.count;
  clocks = λ s. let a : clock_of c.world s + 0 ≡ clock_in s c.past = x.clocks s in (let g : clock_of c.world s + cond (i == s) ms 0 ≡ cond (i == s) ms 0 + clock_in s c.past = omega (arith, a) in g);
  held_wait = held_later c.starts (mark.Made (event.Tick i ms)) c.past c.held x.held_wait;
  marks = x.marks;
}
marked_wait (event.Timeout i) c x = one_more c.starts no_lag c.world c.held c.past (mark.Made (event.Timeout i)) (λ s. refl) (λ r. r) x
marked_wait (event.Beat i) c x = one_more c.starts no_lag c.world c.held c.past (mark.Made (event.Beat i)) (λ s. refl) (λ r. r) x
marked_wait (event.Deliver k) c x = one_more c.starts no_lag c.world c.held c.past (mark.Made (event.Deliver k)) (λ s. refl) (λ r. r) x
marked_wait (event.Drop k) c x = one_more c.starts no_lag c.world c.held c.past (mark.Made (event.Drop k)) (λ s. refl) (λ r. r) x
marked_wait (event.Restart i) c x = one_more c.starts no_lag c.world c.held c.past (mark.Made (event.Restart i)) (λ s. refl) (λ r. r) x
marked_wait (event.FailKeep i nth) c x = one_more c.starts no_lag c.world c.held c.past (mark.Made (event.FailKeep i nth)) (λ s. refl) (λ r. r) x
marked_wait (event.Sync a) c x = one_more c.starts no_lag c.world c.held c.past (mark.Made (event.Sync a)) (λ s. refl) (λ r. r) x
marked_wait (event.AgentTick a ms) c x = one_more c.starts no_lag c.world c.held c.past (mark.Made (event.AgentTick a ms)) (λ s. refl) (λ r. r) x

marked_newest : (made : Event) (c : Cluster) → Of no_lag c → IsNewest made (marked made c)
marked_newest (event.Ask agent asked draw) c x = (inl refl, λ s. inl (refl, let a : clock_of c.world s + 0 ≡ clock_in s c.past = x.clocks s in (let g : clock_in s c.past ≡ clock_of c.world s = omega (arith, a) in g)))
marked_newest other c x = tt

own_lag : (made : Event) → is_agents made ≡ true → (s : ℕ) → lag_of made zero s ≡ 0
own_lag (event.Tick i ms) e s = absurd (cc e)
own_lag other e s = refl

passes_wait : (c : Cluster) (made : Event) (c' : Cluster) → Passes c made c' → Of (lag_of made zero) c → Of no_lag c'
passes_wait c made c' (loses k w' is (p, at, w) e) x = by_equal no_lag _ c' e
    (in_world c.starts no_lag c.world w' c.held c.past (record { clocks = ap (λ (v : World). v.clocks) w; nodes = ap (λ (v : World). length v.nodes) w }) (lag_on c (lag_of made zero) no_lag (λ s. ap (λ (d : Event). lag_of d zero s) is) x))
passes_wait c made c' (replies agent asked draw why is goes e) x = by_equal no_lag _ c' e
    (answered_wait c.starts no_lag c.world c.held c.past c.asked _ false 0 (λ r. r) (lag_on c (lag_of made zero) no_lag (λ s. ap (λ (d : Event). lag_of d zero s) is) x))
passes_wait c made c' (stays own quiet e) x = by_equal no_lag _ c' e (agent_wait no_lag c made (lag_on c (lag_of made zero) no_lag (own_lag made own) x))
passes_wait c made c' (leaderless a why own is goes e) x = by_equal no_lag _ c' e (agent_wait no_lag c made (lag_on c (lag_of made zero) no_lag (own_lag made own) x))

step_waits : (c c' : Cluster) (made : Event) (whole : Bool) (p : ClusterStep c made c' whole) → whole ≡ true → StepIsLegal c made c' whole p → Of no_lag c → Of no_lag c'
step_waits c c' made whole (done i c₁ c₂ m d e) w l x =
    by_equal no_lag (shelved c₂) c' e
    (does_wait i made 0 c₁ c₂ whole d w l.1 (λ z. works_newest made i (marked made c) c₁ m.0 (marked_newest made c x)) (works_wait (lag_of made zero) i (marked made c) c₁ m.0 l.0 (marked_wait made c x)))
step_waits c c' made whole (passed c₁ w p e) z l x = by_equal no_lag (shelved c₁) c' e (passes_wait (marked made c) made c₁ p (marked_wait made c x))
step_waits c c' made whole (cut_early i w c₁ short for d more e) z l x = absurd (cc (z, short))

-- At the start nothing is held and no clock went on.
start_count : (servers id : ℕ) (ss : List Store) (ns : List Node) → StartAll servers id ss ns → length ns ≡ length ss
start_count servers id [] [] a = refl
start_count servers id [] (n ∷ ns) a = absurd a
start_count servers id (s ∷ ss) [] a = absurd a
start_count servers id (s ∷ ss) (n ∷ ns) a = ap suc (start_count servers (suc id) ss ns a.1)

zeros : (n s : ℕ) → of_server (replicate n 0) s ≡ 0
zeros n zero = refl
zeros zero (suc s) = refl
zeros (suc n) (suc zero) = refl
zeros (suc n) (suc (suc s)) = zeros n (suc s)

start_waits : (start : Cluster) → IsStart start → Of no_lag start
start_waits start i = subst (λ (c : Cluster). Of no_lag c) (sym i.is) (record {
  count = ap length i.begins.clocks ∙ length-replicate (length i.stores) 0 ∙ sym (start_count (length i.stores) 1 i.stores i.world.nodes i.begins.nodes);
  clocks = λ s. let a : of_server i.world.clocks s ≡ 0 = ap (λ z. of_server z s) i.begins.clocks ∙ zeros (length i.stores) s in (let g : clock_of i.world s + 0 ≡ 0 = omega (arith, a) in g);
  held_wait = tt;
  marks = tt;
})

run_stands : (start : Cluster) → IsStart start → (whole : Bool) (moves : List Move) (c : Cluster) → Reached start whole moves c → whole ≡ true → Of no_lag c
run_stands start i whole moves c at_start w = start_waits start i
run_stands start i whole moves c (by_event {whole = before} {moves = ms} {c = b} made all r fits s) w =
    let halves = both before all w in
    step_waits b c made all s halves.1 (step_legal b c made all s (run_sound start i before ms b r)) (run_stands start i before ms b r halves.0)
run_stands start i whole moves c (by_taking {whole = before} {moves = ms} {c = b} number out front behind r is e) w = one_more b.starts no_lag b.world b.held b.past (mark.Taken number) (λ s. refl) (λ r. r) (run_stands start i before ms b r w)
run_stands start i whole moves c (by_handing {whole = before} {moves = ms} {c = b} out front behind r is e) w = run_stands start i before ms b r w
run_stands start i whole moves c (by_settling {whole = before} {moves = ms} {c = b} pairs all r ends) w = one_more b.starts no_lag b.world b.held b.past (mark.Settled pairs all) (λ s. refl) (λ r. r) (run_stands start i before ms b r w)
run_stands start i whole moves c (by_advancing {whole = before} {moves = ms} {c = b} time made r ends) w = one_more b.starts no_lag b.world b.held b.past (mark.Advanced time made) (λ s. refl) (λ r. r) (run_stands start i before ms b r w)

pub run_waits : (start : Cluster) → IsStart start → (moves : List Move) (c : Cluster) → Reached start true moves c → ReadsWait c.starts c.past
run_waits start i moves c r = (run_stands start i true moves c r refl).marks
