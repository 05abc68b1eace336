-- Each step of the cluster keeps it sound at work.
use Rattle.std.proofs.Common.{◌≡◌, ℕ, suc, ◌≤◌, inl, Bool, cond, List, [], ◌∷◌, length, take, refl, sym, ◌∙◌, ap, subst, arith, true, false, Option, Some, None}
use Rattle.std.specs.Prelude.{◌==◌, nat_lt}
use Rattle.std.proofs.lemmas.List.{take_all}
use Rattle.cat_model.specs.declared.command.Command.{Command}
use Rattle.cat_model.specs.declared.request.AgentOp.{AgentOp}
use Rattle.cat_model.specs.declared.request.Request.TheVariants.{Agent as OfAgent}
use Rattle.cat_model.specs.declared.request.Asked.{Asked}
use Rattle.cat_model.specs.declared.request.Asked.TheVariants.{Good}
use Rattle.cat_model.specs.declared.reply.Refusal.TheVariants as refusal
use Rattle.raft_model.specs.Node.{set_server}
use Rattle.cat_model.specs.declared.request.Draw.{Draw}
use Rattle.cat_model.specs.declared.request.Event.{Event}
use Rattle.cat_model.specs.declared.request.Event.TheVariants as event
use Rattle.cat_model.specs.declared.reply.Mark.{Mark}
use Rattle.cat_model.specs.declared.reply.Mark.TheVariants as mark
use Rattle.raft_model.specs.World.{World, Drops, Ticks, Arms, Proposes, step as world_step}
use Rattle.raft_model.proofs.Tests.{at_bool, eq_tells, lt_tells_not}
use Rattle.cluster_rules.specs.Replies.{Question, came}
use Rattle.cluster_rules.specs.Cluster.{Cluster, node_of, applied_of, clock_of, agent_of, with_office, took_office, seated}
use Rattle.cluster_rules.specs.Agents.{Agent, change, unknown}
use Rattle.cluster_rules.specs.Lasting.{IsAgents, IsRefused, LastsFor}
use Rattle.cluster_rules.specs.Offices.{office_from}
use Rattle.cluster_rules.specs.Proposals.{Proposals, none_left, breaks, enters, refuses, over_rows, with_ends, Tends, idles, in_turn, cut_off, kind_told, with_change, told, agent_did, Syncs, finds_none, plans, breaks_off, cut_first, did_own}
use Rattle.cluster_rules.specs.Due.{Work, Applies, or_work, first_work, early_work, next_work, due, Works, work}
use Rattle.cluster_rules.specs.Requests.{asked_server, halted_now, moved}
use Rattle.cluster_rules.specs.Step.{events_in, Acts, takes, ticks, arms, restarts, handles, tends, syncs, Does, over, act, cut, cut_between, Passes, loses, replies, stays, leaderless, noted, marked, shelved, ClusterStep, done, passed, cut_early}
use Rattle.cluster_rules.specs.Sound.{IsAmong, entered_in, entries_before, RestartedAt, StartIsSound, PendingIsSound, OutIsSound, IsSoundAtWork}
use Rattle.cluster_rules.proofs.Asking.{AskIsNew, works_new, now_refused}
use Rattle.cluster_rules.proofs.Boundary.{acts_rise, acts_greatest, input_is}
use Rattle.cluster_rules.proofs.Due.{works_sound}
use Rattle.cluster_rules.proofs.Numbered.{numbered_of, was_numbered}
use Rattle.cluster_rules.proofs.Booking.{booked_at_work, just_asked, works_events}
use Rattle.cluster_rules.proofs.Grows.{goes_by, goes_nowhere}
use Rattle.cluster_rules.proofs.Handling.{handles_sound, refused_sound}
use Rattle.cluster_rules.proofs.Later.{Later, pending_later, start_later, out_later, later_mark}
use Rattle.cluster_rules.proofs.Moved.{plain_same, plain_made, turned, held_as_before, servers_go, moved_sound, ticks_rise, arms_rise, drops_rise, restart_sound}
use Rattle.cluster_rules.proofs.Tools.{each_map, each_append, eq_self}
use Rattle.cluster_rules.proofs.Works.{IsRight, answered_sound, office_sound, agents_sound, synced_sound}

-- What an act knows of its event: a request was just asked, a restart was just marked.
pub record Facts (c : Cluster) (made : Event) : Type 0 where
  pub asked : (agent : ℕ) (asked : Asked) (draw : Draw) → made ≡ event.Ask agent asked draw → AskIsNew c (record { number = c.asked; agent = agent; asked = asked; draw = draw })
  pub restarted : (i : ℕ) → made ≡ event.Restart i → RestartedAt (events_in c.past) i c.past

-- a time in office begins
pub seated_sound : (w : World) (c : Cluster) → IsSoundAtWork c → (i : ℕ) → IsSoundAtWork (seated w i c)
seated_sound w c s i = at_bool (λ b. IsSoundAtWork (cond b (with_office i (office_from (clock_of c.world i)) c) c)) (took_office w c.world i) (λ _. office_sound c s i _) (λ _. s)

-- Proposals of no request.
pub proposals_sound : (i : ℕ) (commands : List Command) (c : Cluster) (n : ℕ) (c' : Cluster) (whole : Bool) → Proposals i commands c n c' whole → IsSoundAtWork c → IsSoundAtWork c'
proposals_sound i commands c n c' whole none_left s = s
proposals_sound i commands c n c' whole breaks s = s
proposals_sound i (command ∷ commands) c n c' whole (enters {n = m} w' lead room a up more) s = proposals_sound i commands (moved i w' c) m c' whole more
    (moved_sound c s (halted_now c.world w' i) i w' (Proposes i 0 command) a (acts_rise c.world i _ w' s.world a) (let k = acts_greatest c.world i _ w' a in let z = s.counts.proposed in omega arith))
proposals_sound i (command ∷ commands) c n c' whole (refuses w' lead a why) s =
    moved_sound c s (halted_now c.world w' i) i w' (Proposes i 0 command) a (acts_rise c.world i _ w' s.world a) (let k = acts_greatest c.world i _ w' a in let z = s.counts.proposed in omega arith)

tends_sound : (i : ℕ) (c c' : Cluster) (whole : Bool) → Tends i c c' whole → IsSoundAtWork c → IsSoundAtWork c'
tends_sound i c c' whole (idles lead e) s = subst IsSoundAtWork (sym e) s
tends_sound i c c' whole (in_turn n m c₁ c₂ lead p r e) s = subst IsSoundAtWork (sym e)
    (proposals_sound i _ _ m c₂ whole r (office_sound (with_ends i (take n (over_rows c i)) c₁) (office_sound c₁ (proposals_sound i _ c n c₁ true p s) i _) i _))
tends_sound i c c' whole (cut_off n c₁ lead p e) s = subst IsSoundAtWork (sym e) (office_sound c₁ (proposals_sound i _ c n c₁ false p s) i _)

-- What an agent does by itself.
change_sound : (c : Cluster) → IsSoundAtWork c → (a : ℕ) (g : Option Agent) → IsSoundAtWork (with_change a g c)
change_sound c s a None = s
change_sound c s a (Some g) = agents_sound c s (set_server c.agents a g)

told_right : (c : Cluster) (q : Question) (op : AgentOp) (g : Option Agent) → q.asked ≡ Good (OfAgent op) → AskIsNew c q → IsRight (with_change q.agent g c) [] q (kind_told q.agent op g)
unfolding LastsFor
told_right c q op None ask a = record { asked = a.now.was; open_ = a.now.open_; lasts = subst (λ z. IsRefused z (refusal.NotFound (unknown op))) (sym ask) tt; fresh = tt; rests = tt }
told_right c q op (Some g) ask a = record { asked = a.now.was; open_ = a.now.open_; lasts = subst IsAgents (sym ask) tt; fresh = tt; rests = tt }

told_sound : (c : Cluster) → IsSoundAtWork c → (q : Question) (op : AgentOp) (g : Option Agent) → q.asked ≡ Good (OfAgent op) → AskIsNew c q → IsSoundAtWork (told q op g c)
told_sound c s q op g ask a = answered_sound (with_change q.agent g c) (change_sound c s q.agent g) q (kind_told q.agent op g) false 0 [] refl (told_right c q op g ask a)

pub agent_sound : (c : Cluster) → IsSoundAtWork c → (made : Event) → Facts c made → IsSoundAtWork (agent_did made c)
agent_sound c s (event.AgentTick a ms) f = agents_sound c s _
agent_sound c s (event.Ask a (Good (OfAgent op)) draw) f = told_sound c s (record { number = c.asked; agent = a; asked = Good (OfAgent op); draw = draw }) op (change a op (agent_of c a)) refl (f.asked a (Good (OfAgent op)) draw refl)
agent_sound c s other f = s

syncs_sound : (i a : ℕ) (own : Bool) (c c' : Cluster) (whole : Bool) → Syncs i a own c c' whole → IsSoundAtWork c → IsSoundAtWork c'
syncs_sound i a own c c' whole (finds_none r e) s = subst IsSoundAtWork (sym e) (synced_sound c s a None)
syncs_sound i a own c c' whole (plans n c₁ r p e) s = subst IsSoundAtWork (sym e) (synced_sound c₁ (proposals_sound i _ _ n c₁ true p (agents_sound c s _)) a (Some n))
syncs_sound i a own c c' whole (breaks_off n some r p) s = proposals_sound i _ _ n c' false p (agents_sound c s _)
syncs_sound i a own c c' whole (cut_first mine r e) s = subst IsSoundAtWork (sym e) s

pub acts_sound : (n : ℕ) (c : Cluster) → IsSoundAtWork c → (i : ℕ) (made : Event) → (n ≡ 0 → Facts c made) → (node_of c.world i).commit ≤ length (applied_of c i) → (c' : Cluster) → Acts n c i made c' → IsSoundAtWork c'
acts_sound n c s i made f up c' (takes input w' z is a e) = subst IsSoundAtWork (sym e)
    (let m = input_is c.world i made input w' is a in
    seated_sound c.world (moved i w' c) (moved_sound c s (halted_now c.world w' i) i w' m.move m.step (acts_rise c.world i input w' s.world a)
    (let k = acts_greatest c.world i input w' a in let n = m.plain c.world.greatest in let z = s.counts.proposed in omega arith)) i)
acts_sound n c s i made f up c' (ticks ms w' z is st e) = subst IsSoundAtWork (sym e)
    (let r = ticks_rise c.world i ms w' st in moved_sound c s (halted_now c.world w' i) i w' (Ticks i ms) st r.0 (let z = s.counts.proposed in omega (arith, r.1)))
acts_sound n c s i made f up c' (arms nth w' z is st e) = subst IsSoundAtWork (sym e)
    (let r = arms_rise c.world i nth w' st in moved_sound c s (halted_now c.world w' i) i w' (Arms i nth) st r.0 (let z = s.counts.proposed in omega (arith, r.1)))
acts_sound n c s i made f up c' (restarts w' z is st e) = subst IsSoundAtWork (sym e) (restart_sound c s (node_of w' i).halted i w' st ((f z).restarted i is))
acts_sound n c s i made f up c' (handles agent asked draw z is goes h) =
    handles_sound c s i (record { number = c.asked; agent = agent; asked = asked; draw = draw }) ((f z).asked agent asked draw is) (asked_server (length c.servers) agent) goes up c' h
acts_sound n c s i made f up c' (tends ms whole z is t) = tends_sound i c c' whole t s
acts_sound n c s i made f up c' (syncs a whole z is goes y) = syncs_sound i a (did_own made) (agent_did made c) c' whole y (agent_sound c s made (f z))

pub passes_sound : (c : Cluster) → IsSoundAtWork c → (made : Event) → Facts c made → (c' : Cluster) → Passes c made c' → IsSoundAtWork c'
passes_sound c s made f c' (loses k w' is st e) = subst IsSoundAtWork (sym e)
    (let r = drops_rise c.world k w' st in
    let g = goes_by c.world w' (Drops k) s.world st in
    turned c s w' (world_step (Drops k) s.world st) g c.past (plain_same c.past) (s.counts.entries ∙ sym r.2) (let z = s.counts.proposed in omega (arith, r.1))
    c.servers (servers_go c.world w' g r.0 c.servers s.servers) c.held (held_as_before c s w' g c.past (plain_same c.past)) s.ascends)
passes_sound c s made f c' (replies agent asked draw why is goes e) = subst IsSoundAtWork (sym e)
    (let q : Question = record { number = c.asked; agent = agent; asked = asked; draw = draw } in
    let a = f.asked agent asked draw is in
    let r = now_refused c.world s.world (asked_server (length c.servers) agent) q asked why goes in
    refused_sound c s q why a.now.was a.now.open_ r.0 (r.1 c.world c.starts refl))
passes_sound c s made f c' (stays own free e) = subst IsSoundAtWork (sym e) (agent_sound c s made f)
passes_sound c s made f c' (leaderless a why own is goes e) = subst IsSoundAtWork (sym e) (synced_sound (agent_did made c) (agent_sound c s made f) a None)

-- The mark of an event.
pub noted_sound : (c : Cluster) → IsSoundAtWork c → (made : Event) → IsSoundAtWork (noted made c)
noted_sound c s made =
    turned c s c.world s.world (goes_nowhere c.world) (mark.Made made ∷ c.past) (plain_made made c.past) s.counts.entries s.counts.proposed
    c.servers s.servers c.held (held_as_before c s c.world (goes_nowhere c.world) (mark.Made made ∷ c.past) (plain_made made c.past)) s.ascends

asks_sound : (c : Cluster) → IsSoundAtWork c → (agent : ℕ) (asked : Asked) (draw : Draw) → IsSoundAtWork (marked (event.Ask agent asked draw) c)
asks_sound c s agent asked draw = record {
  world = s.world;
  servers = s.servers;
  starts = each_map (StartIsSound c.world c.past) (StartIsSound c.world past') (λ x y. start_later c.world c.world c.past past' c.starts c.starts later before x y) c.starts s.starts;
  held = each_map (PendingIsSound c.servers c.past c.starts) (PendingIsSound c.servers past' c.starts)
      (λ h x. pending_later c.world c.world c.past past' c.starts c.starts later c.servers c.servers h (record { open_ = λ y. y; before = before h.question x.asked }) (take_all _ _ (omega arith)) x) c.held s.held;
  ascends = s.ascends;
  marks = (ap suc s.counts.asked_is, s.marks);
  fresh = each_map (OutIsSound c.world c.past) (OutIsSound c.world past') (λ o x. out_later c.world c.world c.past past' c.starts c.starts later o x) c.fresh s.fresh;
  tray = each_map (OutIsSound c.world c.past) (OutIsSound c.world past') (λ o x. out_later c.world c.world c.past past' c.starts c.starts later o x) c.tray s.tray;
  counts = record { asked_is = ap suc s.counts.asked_is; proposed = let k = s.counts.proposed in omega arith; entries = s.counts.entries };
}
  where
    past' : List Mark
    past' = mark.Asked (suc c.asked) agent asked draw ∷ c.past

    later : Later c.world c.world c.past (mark.Asked (suc c.asked) agent asked draw ∷ c.past) c.starts c.starts
    later = later_mark c.world (mark.Asked (suc c.asked) agent asked draw) c.past c.starts

    before : (q : Question) → IsAmong (came q) c.past → entries_before q.number (mark.Asked (suc c.asked) agent asked draw ∷ c.past) ≡ entries_before q.number c.past
    before q m = at_bool (λ b. (suc c.asked == q.number) ≡ b → cond b (length (entered_in c.past)) (entries_before q.number c.past) ≡ entries_before q.number c.past) (suc c.asked == q.number)
        (λ _ e. absurd (let k = eq_tells (suc c.asked) q.number e in let l = (was_numbered c.past (numbered_of c.world c.starts c.past s.marks) q m).1 in let z = s.counts.asked_is in omega arith))
        (λ _ _. refl) refl

asks_new : (c : Cluster) → IsSoundAtWork c → (agent : ℕ) (asked : Asked) (draw : Draw) → AskIsNew (marked (event.Ask agent asked draw) c) (record { number = suc c.asked; agent = agent; asked = asked; draw = draw })
asks_new c s agent asked draw = record {
  now = just_asked c (booked_at_work c s) agent asked draw;
  before = ap (λ b. cond b (length (entered_in c.past)) (entries_before (suc c.asked) c.past)) (eq_self (suc c.asked)) ∙ ap length s.counts.entries;
  numbers = let k = s.counts.proposed in omega arith;
}

pub marked_sound : (c : Cluster) → IsSoundAtWork c → (made : Event) → IsSoundAtWork (marked made c)
marked_sound c s (event.Ask agent asked draw) = asks_sound c s agent asked draw
marked_sound c s (event.Timeout i) = noted_sound c s (event.Timeout i)
marked_sound c s (event.Beat i) = noted_sound c s (event.Beat i)
marked_sound c s (event.Tick i ms) = noted_sound c s (event.Tick i ms)
marked_sound c s (event.Deliver k) = noted_sound c s (event.Deliver k)
marked_sound c s (event.Drop k) = noted_sound c s (event.Drop k)
marked_sound c s (event.Restart i) = noted_sound c s (event.Restart i)
marked_sound c s (event.FailKeep i n) = noted_sound c s (event.FailKeep i n)
marked_sound c s (event.Sync a) = noted_sound c s (event.Sync a)
marked_sound c s (event.AgentTick a ms) = noted_sound c s (event.AgentTick a ms)

-- Making up leaves the facts of the event as they are.
pub facts_marked : (c : Cluster) → IsSoundAtWork c → (made : Event) → Facts (marked made c) made
facts_marked c s made = record {
  asked = λ agent asked draw e. subst (λ (z : Event). AskIsNew (marked z c) (record { number = (marked z c).asked; agent = agent; asked = asked; draw = draw })) (sym e) (asks_new c s agent asked draw);
  restarted = λ i e. subst (λ (z : Event). RestartedAt (events_in (marked z c).past) i (marked z c).past) (sym e) (inl (refl, refl));
}

pub facts_worked : (j : ℕ) (c c' : Cluster) (made : Event) → Works j c c' → Facts c made → Facts c' made
facts_worked j c c' made works f = record {
  asked = λ agent asked draw e. let a = works_new j c c' works (record { number = c.asked; agent = agent; asked = asked; draw = draw }) (f.asked agent asked draw e) in
      subst (λ z. AskIsNew c' (record { number = z; agent = agent; asked = asked; draw = draw })) a.now.number a;
  restarted = λ i e. works_events j c c' works i (f.restarted i e);
}

-- At a server at which nothing is due all that is committed is applied.
none_some : (w : Work) → Some w ≡ None → ⊥
none_some w p = cc p

pub or_left : (a b : Option Work) → or_work a b ≡ None → a ≡ None
or_left None b p = refl
or_left (Some w) b p = absurd (none_some w p)

pub or_right : (a b : Option Work) → or_work a b ≡ None → b ≡ None
or_right None b p = p
or_right (Some w) b p = absurd (none_some w p)

pub all_applied : (c : Cluster) (i : ℕ) → due i c ≡ None → (node_of c.world i).commit ≤ length (applied_of c i)
all_applied c i e = at_bool (λ b. nat_lt (length (applied_of c i)) (node_of c.world i).commit ≡ b → cond b (Some Applies) None ≡ None → (node_of c.world i).commit ≤ length (applied_of c i)) (nat_lt (length (applied_of c i)) (node_of c.world i).commit)
    (λ _ _ p. absurd (none_some Applies p))
    (λ _ k _. lt_tells_not _ _ k) refl (or_left (next_work c i) _ (or_right (first_work (early_work c i) c.held) _ e))

pub shelved_sound : (c : Cluster) → IsSoundAtWork c → IsSoundAtWork (shelved c)
shelved_sound c s = record {
  world = s.world;
  servers = s.servers;
  starts = s.starts;
  held = s.held;
  ascends = s.ascends;
  marks = s.marks;
  fresh = tt;
  tray = each_append (OutIsSound c.world c.past) c.tray c.fresh s.tray s.fresh;
  counts = s.counts;
}

does_sound : (i : ℕ) (made : Event) (n : ℕ) (c c' : Cluster) (whole : Bool) → Does i made n c c' whole → IsSoundAtWork c → (n ≡ 0 → Facts c made) → due i c ≡ None → IsSoundAtWork c'
does_sound i made n c c' whole (over e) s f up = s
does_sound i made n c c' whole (act c₁ c₂ a r m more) s f up =
    let s₁ = acts_sound n c s i made f (all_applied c i up) c₁ a in
    does_sound i made (suc n) c₂ c' whole more (works_sound i c₁ c₂ m.0 s₁) (λ z. absurd (omega arith)) m.1
does_sound i made n c c' whole (cut c₁ a m short) s f up = works_sound i c₁ c' m (acts_sound n c s i made f (all_applied c i up) c₁ a)
does_sound i made n c c' whole (cut_between l k) s f up = s

pub step_sound : (c c' : Cluster) (made : Event) (whole : Bool) → ClusterStep c made c' whole → IsSoundAtWork c → IsSoundAtWork c'
step_sound c c' made whole (done i c₁ c₂ m d e) s =
    let s₁ = works_sound i (marked made c) c₁ m.0 (marked_sound c s made) in
    subst IsSoundAtWork (sym e) (shelved_sound c₂ (does_sound i made 0 c₁ c₂ whole d s₁ (λ _. facts_worked i (marked made c) c₁ made m.0 (facts_marked c s made)) m.1))
step_sound c c' made whole (passed c₁ w p e) s =
    subst IsSoundAtWork (sym e) (shelved_sound c₁ (passes_sound (marked made c) (marked_sound c s made) made (facts_marked c s made) c₁ p))
step_sound c c' made whole (cut_early i w c₁ short for d more e) s =
    subst IsSoundAtWork (sym e) (shelved_sound c₁ (works_sound i (noted made c) c₁ (work w d more) (noted_sound c s made)))
