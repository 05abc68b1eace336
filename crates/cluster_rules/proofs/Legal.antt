-- Each reply is legal where it is made.
use Rattle.std.proofs.Common.{◌≡◌, ℕ, suc, ◌<◌, ◌≤◌, inl, inr, Bool, true, false, cond, length, refl, sym, ap, subst, arith, Option, Some, None}
use Rattle.std.specs.Prelude.{◌==◌}
use Rattle.cat_model.specs.declared.request.Asked.{Asked}
use Rattle.cat_model.specs.declared.request.Asked.TheVariants.{Good}
use Rattle.cat_model.specs.declared.request.Request.TheVariants.{Agent as OfAgent}
use Rattle.cat_model.specs.declared.request.Mode.TheVariants.{Default}
use Rattle.cat_model.specs.declared.request.Event.TheVariants as event
use Rattle.cat_model.specs.declared.request.Event.{Event}
use Rattle.cat_model.specs.declared.reply.Kind.{Kind}
use Rattle.cat_model.specs.declared.reply.Kind.TheVariants.{Acked, Seen, Refused}
use Rattle.cat_model.specs.declared.reply.Refusal.TheVariants as refusal
use Rattle.cat_model.specs.Indexes.{index_of}
use Rattle.cat_model.specs.Log.{commands_of}
use Rattle.cat_model.specs.LogLimits.{log_bytes}
use Rattle.raft_model.specs.Log.{term_at, last_term}
use Rattle.raft_model.proofs.Tests.{at_bool, eq_tells, lt_tells}
use Rattle.cluster_rules.specs.Replies.{Question, came}
use Rattle.cluster_rules.specs.Lasting.{IsRead, IsWrite, IsSeen, IsRefused, LastsFor}
use Rattle.cluster_rules.specs.Agents.{Agent, change}
use Rattle.cluster_rules.specs.Locks.{LocksKey}
use Rattle.cluster_rules.specs.Proposals.{kind_told}
use Rattle.std.proofs.lemmas.List.{length-take}
use Rattle.cluster_rules.specs.Cluster.{Stand, AtPlace, InRound, ForIndex, Ended, Pending, Cluster, node_of, applied_of, clock_of, agent_of, until_at}
use Rattle.cluster_rules.specs.Due.{Work, Replies, Holds, Closes, Applies, landed, is_ended, did, due, IsDue, Works, none, work}
use Rattle.cluster_rules.specs.Requests.{Goes, way, asked_server, is_ready, is_stale_read, MayGo, log_with, halted_now, Handles, unready, full, proposes, stops, delays, probes, reads, renews}
use Rattle.cluster_rules.specs.Step.{Acts, takes, ticks, arms, restarts, handles, tends, syncs, Does, over, act, cut, cut_between, Passes, loses, replies, stays, leaderless, noted, marked, ClusterStep, done, passed, cut_early}
use Rattle.cluster_rules.specs.Sound.{IsAmong, IsSoundAtWork, Sound}
use Rattle.cluster_rules.specs.Legal.{Allows, AllowsIndex, Cause, waited, at_once, not_ready, no_room, delay, renewed, by_agent, unknown_there, stopped, IsLegal, AgentIsLegal, WorkIsLegal, AllLegal, HandleIsLegal, ActIsLegal, DoesLegally, PassIsLegal, StepIsLegal}
use Rattle.cluster_rules.proofs.Asking.{AskIsNew, now_refused, unready_refused}
use Rattle.cluster_rules.proofs.Cases.{Leaves, due_cases}
use Rattle.cluster_rules.proofs.Due.{due_right, works_sound}
use Rattle.cluster_rules.proofs.Grows.{lasting_grows}
use Rattle.cluster_rules.proofs.Handling.{as_write, past_limits, delayed_tells}
use Rattle.cluster_rules.proofs.Moved.{plain_moved}
use Rattle.cluster_rules.proofs.Steps.{Facts, acts_sound, all_applied, noted_sound, marked_sound, facts_marked, facts_worked}
use Rattle.cluster_rules.proofs.Tools.{eq_tells_not, not_tells, all_among}
use Rattle.cluster_rules.proofs.Works.{WorkIsRight, did_sound}

abbrev WorkHasCause : Cluster → ℕ → Work → Type 0
WorkHasCause c i (Replies q kind) = Cause c i q kind
WorkHasCause c i (Holds h) = Unit {0}
WorkHasCause c i (Closes number event) = (h : Pending) × IsAmong h c.held × (h.question.number ≡ number) × (h.server ≡ i) × (h.stand ≡ Ended event)
WorkHasCause c i Applies = Unit {0}

-- a halted server's answer, whatever the request waits for
halt_allowed : (c : Cluster) (i : ℕ) (asked : Asked) (st : Stand) → (node_of c.world i).halted ≡ true → is_ended st ≡ false → Allows c i asked st (Refused (refusal.Halted i))
halt_allowed c i asked (AtPlace index term) h e = (refl, h)
halt_allowed c i asked (InRound round deadline) h e = (refl, h)
halt_allowed c i asked (ForIndex deadline looked) h e = (refl, h)
halt_allowed c i asked (Ended event) h e = absurd (cc e)

landed_allowed : (c : Cluster) (i : ℕ) (asked : Asked) (index term : ℕ) → index ≤ length (applied_of c i) → Allows c i asked (AtPlace index term) (landed index term (applied_of c i))
landed_allowed c i asked index term l =
    at_bool (λ b. (term_at index (applied_of c i) == term) ≡ b → Allows c i asked (AtPlace index term) (cond b (Acked index) (Refused (refusal.Lost term (term_at index (applied_of c i)))))) (term_at index (applied_of c i) == term)
    (λ _ e. (refl, l, eq_tells (term_at index (applied_of c i)) term e))
    (λ _ e. (refl, l, refl, λ z. eq_tells_not (term_at index (applied_of c i)) term e (sym z))) refl

module _ (c : Cluster) (i : ℕ) (h : Pending) (m : IsAmong h c.held) (at : h.server ≡ i) where
  because : (kind : Kind) (st : Stand) → h.stand ≡ st → Allows c i h.question.asked st kind → Cause c i h.question kind
  because kind st e x = waited h m refl at (subst (λ z. Allows c i h.question.asked z kind) (sym e) x)

  leaves : Leaves c i (WorkHasCause c i) h
  leaves = record {
    halted = λ e n. because _ h.stand refl (halt_allowed c i h.question.asked h.stand e n);
    closes = λ event e. (h, m, refl, at, e);
    lands = λ index term e l. because _ (AtPlace index term) e (landed_allowed c i h.question.asked index term l);
    rises = λ round deadline e l. because _ (InRound round deadline) e (refl, refl, l);
    answers = λ deadline looked query mode least wait raw st ask due. because _ (ForIndex deadline looked) st (refl, refl, refl);
    refuses = λ deadline query mode least wait raw st ask below early l. because _ (ForIndex deadline false) st
        (refl, l, refl, subst (λ z. IsRead z (λ query mode least. (index_of query (commands_of (applied_of c i)) ≤ least) × (clock_of c.world i < deadline))) (sym ask) (below, early));
    sees = λ deadline query mode least wait raw st ask below. tt;
    runs = λ deadline looked name limit mode st ask. waited h m refl at (subst (λ z. Allows c i h.question.asked z (Seen mode (length (applied_of c i)))) (sym st) (subst (λ z. AllowsIndex c i z deadline looked (Seen mode (length (applied_of c i)))) (sym ask) (refl, refl)));
    turns = λ round deadline st up confirmed l. tt;
  }

pub due_legal : (c : Cluster) → IsSoundAtWork c → (i : ℕ) (w : Work) → IsDue i c w → WorkIsLegal c i w
due_legal c s i w d = both w (due_right c s i w d) (due_cases c i (WorkHasCause c i) (λ h. IsAmong h c.held) (all_among c.held) (leaves c i) (λ _. tt) w d)
  where
    both : (w : Work) → WorkIsRight c i w → WorkHasCause c i w → WorkIsLegal c i w
    both (Replies q kind) r k = record { asked = r.asked; lasts = lasting_grows (applied_of c i) c.world.agreed (sym (s.servers.each i).front) q kind r.lasts; cause = k; known_is = refl; contact_is = refl }
    both (Holds h) r k = tt
    both (Closes number event) r k = k
    both Applies r k = r

pub works_legal : (i : ℕ) (c c' : Cluster) (p : Works i c c') → IsSoundAtWork c → AllLegal i c c' p
works_legal i c c' none s = tt
works_legal i c c' (work w d more) s = (due_legal c s i w d, works_legal i (did i w c) c' more (did_sound c s i w (due_right c s i w d)))

is_ready_for : (c : Cluster) (i : ℕ) (q : Question) → is_stale_read q.asked ≡ false → MayGo c i q → is_ready c i ≡ true
is_ready_for c i q fresh (inl z) = absurd (cc (z, fresh))
is_ready_for c i q fresh (inr z) = z

-- what is applied is within the agreed log
applied_within : (c : Cluster) → IsSoundAtWork c → (i : ℕ) → length (applied_of c i) ≤ length c.world.agreed
applied_within c s i = let k = ap length (s.servers.each i).front in omega (arith, length-take (length (applied_of c i)) c.world.agreed)

handles_legal : (c : Cluster) → IsSoundAtWork c → (i : ℕ) (q : Question) → AskIsNew c q → way c.world (asked_server (length c.servers) q.agent) q.asked ≡ Some (Goes i) → (c' : Cluster) (p : Handles c i q c') → HandleIsLegal c i q c' p
unfolding LastsFor
handles_legal c s i q a goes c' (unready st r e) = record {
  asked = a.now.was;
  lasts = unready_refused c.world (asked_server (length c.servers) q.agent) i q.asked _ _ goes st (lt_tells (last_term (applied_of c i)) (node_of c.world i).term (not_tells _ r));
  cause = not_ready refl goes st r;
  known_is = refl;
  contact_is = refl;
}
handles_legal c s i q a goes c' (full command w' ask free go room b e) = record {
  asked = a.now.was;
  lasts = as_write q command (λ z. IsRefused z (refusal.LogFull (length (log_with (node_of c.world i) q command)) (log_bytes (log_with (node_of c.world i) q command)))) ask (past_limits (log_with (node_of c.world i) q command) room);
  cause = no_room command refl goes ask (is_ready_for c i q (as_write q command (λ z. is_stale_read z ≡ false) ask refl) go) room;
  known_is = refl;
  contact_is = refl;
}
handles_legal c s i q a goes c' (proposes command w' ask free go room b up e) = tt
handles_legal c s i q a goes c' (stops command w' ask free go room b down e) = record {
  asked = (plain_moved (halted_now c.world w' i) i w' c).was (came q) a.now.was;
  lasts = as_write q command (λ z. IsRefused z (refusal.Halted i)) ask tt;
  cause = stopped command refl ask down;
  known_is = refl;
  contact_is = refl;
}
handles_legal c s i q a goes c' (delays command key ask go d e) = record {
  asked = a.now.was;
  lasts = let t = delayed_tells (until_at c i) (clock_of c.world i) command key d in (as_write q command (λ z. IsWrite z (LocksKey key)) ask t.0, t.1);
  cause = delay command key refl goes ask (is_ready_for c i q (as_write q command (λ z. is_stale_read z ≡ false) ask refl) go) d;
  known_is = refl;
  contact_is = refl;
}
handles_legal c s i q a goes c' (probes wait w' look go b e) = tt
handles_legal c s i q a goes c' (reads mode wait look d go e) = tt
handles_legal c s i q a goes c' (renews id ask go e) = record {
  asked = a.now.was;
  lasts = (subst (λ z. IsSeen z Default) (sym ask) refl, applied_within c s i);
  cause = renewed id refl goes ask (is_ready_for c i q (subst (λ z. is_stale_read z ≡ false) (sym ask) refl) go);
  known_is = refl;
  contact_is = refl;
}

-- an agent's answer
told_legal : (c : Cluster) (made : Event) → Facts c made → AgentIsLegal c made
unfolding LastsFor
told_legal c (event.Ask a (Good (OfAgent op)) draw) f = by (change a op (agent_of c a)) refl
  where
    q : Question
    q = record { number = c.asked; agent = a; asked = Good (OfAgent op); draw = draw }

    new : AskIsNew c (record { number = c.asked; agent = a; asked = Good (OfAgent op); draw = draw })
    new = f.asked a (Good (OfAgent op)) draw refl

    by : (g : Option Agent) → change a op (agent_of c a) ≡ g → IsLegal c (asked_server (length c.servers) a) (record { number = c.asked; agent = a; asked = Good (OfAgent op); draw = draw }) (kind_told a op g) false 0
    by None e = record { asked = new.now.was; lasts = tt; cause = unknown_there op refl e refl; known_is = refl; contact_is = refl }
    by (Some g) e = record { asked = new.now.was; lasts = tt; cause = by_agent op g refl e refl; known_is = refl; contact_is = refl }
told_legal c other f = tt

acts_legal : (n : ℕ) (c : Cluster) → IsSoundAtWork c → (i : ℕ) (made : Event) → (n ≡ 0 → Facts c made) → (c' : Cluster) (p : Acts n c i made c') → ActIsLegal n c i made c' p
acts_legal n c s i made f c' (takes input w' z is a e) = tt
acts_legal n c s i made f c' (ticks ms w' z is st e) = tt
acts_legal n c s i made f c' (arms nth w' z is st e) = tt
acts_legal n c s i made f c' (restarts w' z is st e) = tt
acts_legal n c s i made f c' (handles agent asked draw z is goes h) = handles_legal c s i (record { number = c.asked; agent = agent; asked = asked; draw = draw }) ((f z).asked agent asked draw is) goes c' h
acts_legal n c s i made f c' (tends ms whole z is t) = tt
acts_legal n c s i made f c' (syncs a whole z is goes y) = told_legal c made (f z)

passes_legal : (c : Cluster) → IsSoundAtWork c → (made : Event) → Facts c made → (c' : Cluster) (p : Passes c made c') → PassIsLegal c made c' p
unfolding LastsFor
passes_legal c s made f c' (loses k w' is st e) = tt
passes_legal c s made f c' (replies agent asked draw why is goes e) = record {
  asked = (f.asked agent asked draw is).now.was;
  lasts = (now_refused c.world s.world (asked_server (length c.servers) agent) (record { number = c.asked; agent = agent; asked = asked; draw = draw }) asked why goes).0;
  cause = at_once why refl goes;
  known_is = refl;
  contact_is = refl;
}
passes_legal c s made f c' (stays own free e) = told_legal c made f
passes_legal c s made f c' (leaderless a why own is goes e) = told_legal c made f

does_legal : (i : ℕ) (made : Event) (n : ℕ) (c c' : Cluster) (whole : Bool) (p : Does i made n c c' whole) → IsSoundAtWork c → (n ≡ 0 → Facts c made) → due i c ≡ None → DoesLegally i made n c c' whole p
does_legal i made n c c' whole (over e) s f up = tt
does_legal i made n c c' whole (act c₁ c₂ a r m more) s f up =
    let s₁ = acts_sound n c s i made f (all_applied c i up) c₁ a in
    (acts_legal n c s i made f c₁ a, works_legal i c₁ c₂ m.0 s₁, does_legal i made (suc n) c₂ c' whole more (works_sound i c₁ c₂ m.0 s₁) (λ z. absurd (omega arith)) m.1)
does_legal i made n c c' whole (cut c₁ a m short) s f up =
    (acts_legal n c s i made f c₁ a, works_legal i c₁ c' m (acts_sound n c s i made f (all_applied c i up) c₁ a))
does_legal i made n c c' whole (cut_between l k) s f up = tt

pub step_legal : (c c' : Cluster) (made : Event) (whole : Bool) (p : ClusterStep c made c' whole) → Sound c → StepIsLegal c made c' whole p
step_legal c c' made whole (done i c₁ c₂ m d e) s =
    let s₀ = marked_sound c s.parts made in (
      works_legal i (marked made c) c₁ m.0 s₀,
      does_legal i made 0 c₁ c₂ whole d (works_sound i (marked made c) c₁ m.0 s₀) (λ _. facts_worked i (marked made c) c₁ made m.0 (facts_marked c s.parts made)) m.1,
    )
step_legal c c' made whole (passed c₁ w p e) s = passes_legal (marked made c) (marked_sound c s.parts made) made (facts_marked c s.parts made) c₁ p
step_legal c c' made whole (cut_early i w c₁ short for d more e) s = works_legal i (noted made c) c₁ (work w d more) (noted_sound c s.parts made)
